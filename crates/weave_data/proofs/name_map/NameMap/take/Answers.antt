use Rattle.std.proofs.Common.{◌≡◌, ◌+◌, false, is_some, sym, ap, ◌∙◌, subst}
use Rattle.weave_data.specs.Pairs.{has}
use Rattle.weave_data.specs.Places.{IsGap}
use Rattle.weave_data.proofs.Finding.{none_in_gap}
use Rattle.weave_data.proofs.Kept.{kept_cut, taken_back}
use Rattle.weave_data.proofs.name_map.NameMap.take.Goals as goal

pub unreachable-requires : goal.unreachable-requires
unreachable-requires g c =
    let gap = subst (λ es. IsGap c.args.key es c.in_default.field-0) c.as_slice.ensures.value c.in_default.ensures.absent in
    let gone : has c.args.key c.args.self.now ≡ false = ap (has c.args.key) (sym c.self.view_is) ∙ ap is_some (none_in_gap c.args.key _ _ c.self.invariant.0 gap) in
    cc (gone, c.requires)

pub invariant_of-self : goal.invariant_of-self
invariant_of-self g c = kept_cut c.args.key c.self.inside.pairs.items _ _ _ _ _ c.self.invariant c.cut-value.ensures.items c.cut-value.ensures.len c.cut-value.ensures.capacity

pub returns-clause-undo : goal.returns-clause-undo
returns-clause-undo g c =
    let len = ap (λ n. n + 1) (sym c.cut-value.new.pairs.ok.0) ∙ c.cut-value.ensures.len ∙ sym c.len.ensures in
    taken_back c.args.key c.cut-value.result c.self.inside.pairs.items _ _ c.self.invariant.0 c.self.view_is c.len.result c.in_ok-room.room c.cut-value.ensures.before c.cut-value.ensures.items len c.in_ok-room.ensures
