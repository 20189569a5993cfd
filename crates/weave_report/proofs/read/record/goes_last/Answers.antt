use Rattle.std.proofs.Common.{◌≡◌, ℕ, ◌-◌, suc, List, [], ◌∷◌, Some, length, slice_get, sym, ◌∙◌, subst, arith}
use Rattle.weave_report.proofs.KeysInOrder.{last_decides}
use Rattle.weave_report.proofs.read.record.goes_last.Goals as goal

not_empty : {X : Type 0} (pairs : List (List ℕ × X)) (pair : List ℕ × X) → slice_get pairs (length pairs - 1) ≡ Some pair → length pairs ≡ suc (length pairs - 1)
not_empty [] pair last = absurd cc
not_empty (p ∷ pairs) pair last = omega arith

pub returns-in-Some : goal.returns-in-Some
returns-in-Some g c =
    let pairs = c.args.pairs.now in
    let last = subst (λ all. slice_get all (length all - 1) ≡ Some c.in-Some.field-0.now) c.as_slice.ensures.pairs (sym c.in-Some.ensures.value) in
    c.lt.ensures ∙ sym (last_decides pairs (length pairs - 1) c.in-Some.field-0.now c.args.key c.as_slice.ensures.rising (not_empty pairs c.in-Some.field-0.now last) last)
