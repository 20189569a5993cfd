use Rattle.std.proofs.Common.{is_some, sym, ap, ◌∙◌, subst}
use Rattle.weave_data.specs.Pairs.{has, at_key}
use Rattle.weave_data.specs.Places.{IsGap}
use Rattle.weave_data.proofs.Finding.{none_in_gap}
use Rattle.weave_data.proofs.Changing.{without_absent}
use Rattle.weave_data.proofs.Kept.{kept_cut}
use Rattle.weave_data.proofs.name_map.NameMap.remove.Goals as goal

pub invariant_of-self : goal.invariant_of-self
invariant_of-self g c = kept_cut c.args.key c.self.inside.pairs.items _ _ _ _ _ c.self.invariant c.cut.ensures.items c.cut.ensures.len c.cut.ensures.capacity

pub returns-in-Err-clause-found : goal.returns-in-Err-clause-found
returns-in-Err-clause-found g c =
    let gap = subst (λ es. IsGap c.args.key es c.in-Err.field-0) c.as_slice.ensures.value c.in-Err.ensures.absent in
    sym (ap is_some (none_in_gap c.args.key _ _ c.self.invariant.0 gap)) ∙ ap (has c.args.key) c.self.view_is

pub returns-in-Err-clause-after : goal.returns-in-Err-clause-after
returns-in-Err-clause-after g c =
    let gap = subst (λ es. IsGap c.args.key es c.in-Err.field-0) c.as_slice.ensures.value c.in-Err.ensures.absent in
    sym (without_absent c.args.key c.args.self.now (ap (at_key c.args.key) (sym c.self.view_is) ∙ none_in_gap c.args.key _ _ c.self.invariant.0 gap))
