use Rattle.std.proofs.Common.{Some, set, sym, ap, ◌∙◌, arith}
use Rattle.weave_data.proofs.Finding.{at_place_inside, found_at, put_at}
use Rattle.weave_data.proofs.name_map.write.Goals as goal

pub index_mut-requires : goal.index_mut-requires
index_mut-requires g c = omega (arith, at_place_inside c.args.key _ _ c.requires, c.args.pairs.now.ok.0)

pub returns-clause-before : goal.returns-clause-before
returns-clause-before g c = found_at c.args.key _ _ c.index_mut.result.now c.requires ∙ ap (λ pair. Some pair.1) (sym (c.replace-before.ensures.value ∙ c.index_mut.ensures.value))

pub returns-clause-items : goal.returns-clause-items
returns-clause-items g c = ap (set c.args.pairs.now.items c.args.at) c.replace-before.ensures.after ∙ sym (put_at c.args.key _ _ c.args.value c.requires)
