use Rattle.std.proofs.Common.{Some, sym, ap, ◌∙◌, arith}
use Rattle.weave_data.proofs.Finding.{at_place_inside, found_at, without_at}
use Rattle.weave_data.proofs.name_map.cut.Goals as goal

pub remove-before-requires : goal.remove-before-requires
remove-before-requires g c = omega (arith, at_place_inside c.args.key _ _ c.requires, c.args.pairs.now.ok.0)

pub returns-clause-before : goal.returns-clause-before
returns-clause-before g c = found_at c.args.key _ _ c.remove-before.result c.requires ∙ ap (λ pair. Some pair.1) (sym c.remove-before.ensures.value)

pub returns-clause-items : goal.returns-clause-items
returns-clause-items g c = c.remove-before.ensures.items ∙ sym (without_at c.args.key _ _ c.requires)
