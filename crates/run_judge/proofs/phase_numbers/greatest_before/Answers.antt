use Rattle.std.proofs.Common.{◌≡◌, ◌+◌, ℕ, List, [], ◌∷◌, ◌++◌, Option, length, sym, ap, ◌∙◌, subst, arith}
use Rattle.std.proofs.lemmas.List.{length-append}
use Rattle.run_judge.specs.declared.phase_numbers.Numbered.{Numbered}
use Rattle.run_judge.specs.Numbers.{AreGreatest, HasEarlier, IsGreatest}
use Rattle.run_judge.proofs.NumberLaws.{greatest_more}
use Rattle.run_judge.proofs.phase_numbers.greatest_before.Goals as goal

pub loop-place-preserved : goal.loop-place-preserved
loop-place-preserved c =
    let values : List (Option ℕ) = c.args.values.now in
    let phases : List ℕ = c.args.phases.now in
    let place : ℕ = c.loop-place.place in
    let old : List (Option Numbered) = c.loop-place.greatest.items in
    let before : Option Numbered = c.earlier_at-before.result in
    let size = c.loop-place.invariant.size in
    let is : c.push.new.self.items ≡ old ++ before ∷ [] = c.in_ok-push.ensures.items in
    let long = length-append old (before ∷ []) in
    record {
      size = ap (λ (xs : List (Option Numbered)). length xs) is ∙ omega (arith, long, size);
      greatest = subst (AreGreatest values phases (place + 1)) (sym is) (greatest_more values phases place old before size c.earlier_at-before.ensures c.loop-place.invariant.greatest);
      earlier = subst (λ n. IsGreatest (HasEarlier values phases n) before) (omega arith) c.earlier_at-before.ensures;
      all = c.with_value-next.ensures;
    }
