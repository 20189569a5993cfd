-- Numbers in a row.
-- Used by crates gatekeeper, hands_account, weave_entries and weave_phase.
use Rattle.std.proofs.Common.{◌≡◌, ℕ, zero, suc, ◌+◌, ◌<◌, ◌≤◌, Bool, nat_eq, List, [], ◌∷◌, ◌++◌, filter, ◌⊎◌, inl, inr, refl, sym, ap, ◌∙◌, add-zero, arith}
use Rattle.std.specs.List.{range_with_len}
use Rattle.std.proofs.lemmas.Bool.{cases_Bool, eqb-true}

-- one more number at the end
pub range_more : (first count : ℕ) → range_with_len first (suc count) ≡ range_with_len first count ++ (first + count) ∷ []
range_more first zero = ap (λ n. n ∷ []) (sym (add-zero first))
range_more first (suc count) =
    let e : first + 1 + count ≡ first + suc count = omega arith in
    ap (λ ns. first ∷ ns) (range_more (first + 1) count ∙ ap (λ n. range_with_len (first + 1) count ++ n ∷ []) e)

module _ (p : ℕ → Bool) (one : ℕ) where
  -- those of some numbers in a row that pass and are this one
  abbrev pub picked : ℕ → ℕ → List ℕ
  picked first count = filter (λ n. nat_eq n one) (filter p (range_with_len first count))

  -- there is none if they begin above it
  pub picked_below : (first count : ℕ) → one < first → picked first count ≡ []
  picked_below first zero below = refl
  picked_below first (suc count) below =
      elim (cases_Bool (p first)) [
        | inl holds ↦ rw holds (elim (cases_Bool (nat_eq first one)) [
          | inl same ↦ let e : first ≡ one = eqb-true first one same in absurd (omega arith)
          | inr other ↦ rw other (picked_below (first + 1) count (omega arith))
        ])
        | inr fails ↦ rw fails (picked_below (first + 1) count (omega arith))
      ]

  -- there is one at most
  pub picked_one : (first count : ℕ) → (picked first count ≡ []) ⊎ (picked first count ≡ one ∷ [])
  picked_one first zero = inl refl
  picked_one first (suc count) =
      elim (cases_Bool (p first)) [
        | inl holds ↦ rw holds (elim (cases_Bool (nat_eq first one)) [
          | inl same ↦
              let e : first ≡ one = eqb-true first one same in
              rw (same, picked_below (first + 1) count (omega arith)) (inr (ap (λ n. n ∷ []) e))
          | inr other ↦ rw other (picked_one (first + 1) count)
        ])
        | inr fails ↦ rw fails (picked_one (first + 1) count)
      ]

  -- there is none if they end below it
  pub picked_beyond : (first count : ℕ) → first + count ≤ one → picked first count ≡ []
  picked_beyond first zero beyond = refl
  picked_beyond first (suc count) beyond =
      elim (cases_Bool (p first)) [
        | inl holds ↦ rw holds (elim (cases_Bool (nat_eq first one)) [
          | inl same ↦ let e : first ≡ one = eqb-true first one same in absurd (omega arith)
          | inr other ↦ rw other (picked_beyond (first + 1) count (omega arith))
        ])
        | inr fails ↦ rw fails (picked_beyond (first + 1) count (omega arith))
      ]
