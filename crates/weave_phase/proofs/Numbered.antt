-- With a bound one higher, the numbers below it that pass a test are those before, and the old bound if it passes.
-- Used by `sessions_of`.
use Rattle.std.proofs.Common.{◌≡◌, ℕ, suc, ◌+◌, Bool, true, false, cond, [], ◌∷◌, ◌++◌, ap, ◌∙◌, arith}
use Rattle.std.specs.List.{filter, range_with_len}
use Rattle.std.proofs.lemmas.List.{append-nil}
use Rattle.std.proofs.lemmas.List.Elements.{filter-append}
use Rattle.weave_data.proofs.Ranges.{range_more}

one-more : (p : ℕ → Bool) (n : ℕ) → filter p (range_with_len 0 (n + 1)) ≡ filter p (range_with_len 0 n) ++ cond (p n) (n ∷ []) []
one-more p n =
    let next : n + 1 ≡ suc n = omega arith in
    let last : 0 + n ≡ n = omega arith in
    ap (λ k. filter p (range_with_len 0 k)) next
    ∙ ap (filter p) (range_more 0 n ∙ ap (λ k. range_with_len 0 n ++ k ∷ []) last)
    ∙ filter-append p (range_with_len 0 n) (n ∷ [])

-- if the bound passes the test, the passing numbers with the bound one higher have it at the end
pub passes-too : (p : ℕ → Bool) (n : ℕ) → p n ≡ true → filter p (range_with_len 0 (n + 1)) ≡ filter p (range_with_len 0 n) ++ n ∷ []
passes-too p n is = one-more p n ∙ ap (λ b. filter p (range_with_len 0 n) ++ cond b (n ∷ []) []) is

-- if the bound doesn't pass the test, the passing numbers with the bound one higher are the same
pub passes-not : (p : ℕ → Bool) (n : ℕ) → p n ≡ false → filter p (range_with_len 0 (n + 1)) ≡ filter p (range_with_len 0 n)
passes-not p n is =
    one-more p n ∙ ap (λ b. filter p (range_with_len 0 n) ++ cond b (n ∷ []) []) is ∙ append-nil (filter p (range_with_len 0 n))
