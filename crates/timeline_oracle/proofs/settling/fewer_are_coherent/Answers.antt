use Rattle.timeline_oracle.proofs.settling.fewer_are_coherent.Goals as goal

pub returns : goal.returns
returns c = c.parts_and_unions_are_coherent.ensures.part
