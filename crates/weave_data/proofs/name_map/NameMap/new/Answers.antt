use Rattle.std.proofs.Common.{◌≤◌, subst, sym, arith, vec_capacity}
use Rattle.weave_data.specs.Changes.{places}
use Rattle.weave_data.proofs.Changing.{none_rise}
use Rattle.weave_data.proofs.name_map.NameMap.new.Goals as goal

pub invariant_of-result : goal.invariant_of-result
invariant_of-result g c =
    let enough : places 0 ≤ vec_capacity c.new.result = omega arith in
    (none_rise _ c.new.ensures.items, subst (λ n. places n ≤ vec_capacity c.new.result) (sym c.new.ensures.len) enough)
