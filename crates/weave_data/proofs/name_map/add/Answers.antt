use Rattle.std.proofs.Common.{sym, ◌∙◌, arith}
use Rattle.std.proofs.lemmas.Bool.{cond-true}
use Rattle.weave_data.proofs.Finding.{gap_inside, put_in_gap}
use Rattle.weave_data.proofs.name_map.add.Goals as goal

pub insert-requires : goal.insert-requires
insert-requires g c = omega (arith, gap_inside c.args.key _ _ c.requires.gap, c.args.pairs.now.ok.0)

pub returns-clause-items : goal.returns-clause-items
returns-clause-items g c = c.insert.ensures.items ∙ cond-true _ _ _ (c.insert.ensures.succeeds c.requires.room) ∙ sym (put_in_gap c.args.key _ _ c.args.value c.requires.gap)
