use Rattle.std.proofs.Common.{◌≡◌, ◌<◌, ℕ, List, take, length, get_or, Some, refl, sym, subst, ◌∙◌, arith}
use Rattle.std.specs.Prelude.{MatchBool, slice_get}
use Rattle.std.proofs.lemmas.List.{get_or_default}
use Rattle.std.proofs.lemmas.Option.{slice_get_read}
use Rattle.run_judge.proofs.PrintedLaws.{ended_early, same_more, same_whole}
use Rattle.run_judge.proofs.printed.first_difference.Goals as goal

here : (xs : List ℕ) (k d : ℕ) → k < length xs → slice_get xs k ≡ Some (get_or xs k d)
here xs k d within = slice_get_read xs (length xs) k (get_or xs k d) refl within (get_or_default xs k d (get_or xs k d) within)

pub returns-then-not-is_at : goal.returns-then-not-is_at
returns-then-not-is_at c =
    let found : List ℕ = c.args.found.now in
    let wanted : List ℕ = c.args.wanted.now in
    let k : ℕ = c.loop-place.place in
    let within : k < length found = c.loop-place-test.true in
    let x : ℕ = get_or found k 0 in (
      k,
      refl,
      (omega (arith, within)),
      c.loop-place.invariant.0,
      λ same. (subst (λ b. MatchBool b (slice_get wanted k ≡ Some x) (¬ (slice_get wanted k ≡ Some x))) c.if-not-is_at.true c.is_at.ensures) (sym same ∙ here found k 0 within),
    )

pub loop-place-preserved : goal.loop-place-preserved
loop-place-preserved c =
    let found : List ℕ = c.args.found.now in
    let wanted : List ℕ = c.args.wanted.now in
    let k : ℕ = c.loop-place.place in
    let within : k < length found = c.loop-place-test.true in
    let x : ℕ = get_or found k 0 in (
      same_more found wanted k x within (here found k 0 within)
          (subst (λ b. MatchBool b (slice_get wanted k ≡ Some x) (¬ (slice_get wanted k ≡ Some x))) c.if-not-is_at.false c.is_at.ensures) c.loop-place.invariant.0,
      (omega (arith, within)),
    )

pub returns-then-found-wanted : goal.returns-then-found-wanted
returns-then-found-wanted c =
    let found : List ℕ = c.args.found.now in
    let wanted : List ℕ = c.args.wanted.now in
    let at_end : c.loop-place.place ≡ length found = omega (arith, c.loop-place-test.false, c.loop-place.invariant.1) in
    (length found, refl, (omega arith), subst (λ k. take k found ≡ take k wanted) at_end c.loop-place.invariant.0, ended_early found wanted c.if-found-wanted.true)

pub returns : goal.returns
returns c =
    same_whole c.args.found.now c.args.wanted.now c.loop-place.place (omega (arith, c.loop-place-test.false)) (omega (arith, c.if-found-wanted.false)) c.loop-place.invariant.0

pub loop-place-init : goal.loop-place-init
loop-place-init c = (refl, omega arith)
