use Rattle.version_chain.proofs.LookBack.{learns_twice, still_coherent}
use Rattle.version_chain.proofs.view.ask.Goals as goal

pub settle-requires-clause-coherent : goal.settle-requires-clause-coherent
settle-requires-clause-coherent g c =
    still_coherent c.parts_and_unions_are_coherent.ensures.part c.args.program c.args.update _ _ c.is_refused.ensures.known c.requires.coherent

pub returns-in-Ok-clause-known : goal.returns-in-Ok-clause-known
returns-in-Ok-clause-known g c = learns_twice c.args.program c.args.update _ _ _ c.is_refused.ensures.known c.settle.ensures.known

pub returns-clause-known : goal.returns-clause-known
returns-clause-known g c = learns_twice c.args.program c.args.update _ _ _ c.is_refused.ensures.known c.settle.ensures.known
