use Rattle.std.proofs.Common.{Some, sym, ap, ◌∙◌, subst, arith}
use Rattle.weave_data.specs.Pairs.{at_key}
use Rattle.weave_data.specs.Places.{IsAt, IsGap}
use Rattle.weave_data.proofs.Finding.{at_place_inside, found_at, none_in_gap}
use Rattle.weave_data.proofs.name_map.NameMap.get.Goals as goal

pub index-requires : goal.index-requires
index-requires g c = omega (arith, at_place_inside c.args.key _ _ c.in-Ok.ensures.found, c.as_slice.ensures.len)

pub returns-in-Ok : goal.returns-in-Ok
returns-in-Ok g c =
    let found = found_at c.args.key c.self.inside.pairs.items c.in-Ok.at c.index.result.now (subst (λ es. IsAt c.args.key es c.in-Ok.at) c.as_slice.ensures.value c.in-Ok.ensures.found) in
    ap (λ pair. Some pair.1) c.index.ensures ∙ sym found ∙ ap (at_key c.args.key) c.self.view_is

pub returns-in-Err : goal.returns-in-Err
returns-in-Err g c =
    sym (none_in_gap c.args.key c.self.inside.pairs.items c.in-Err.field-0 c.self.invariant.0 (subst (λ es. IsGap c.args.key es c.in-Err.field-0) c.as_slice.ensures.value c.in-Err.ensures.absent))
    ∙ ap (at_key c.args.key) c.self.view_is
