-- Which numbers a set of bits has, after one is set.
-- Used by `bit`, `empty` and `set_bit`.
use Rattle.std.proofs.Common.{◌≡◌, ℕ, ◌*◌, ◌/◌, ◌%◌, ◌^◌, ◌<◌, Bool, true, false, ◌||◌, List, get_or, set, length, replicate, eqb, inl, inr, refl, sym, ap, ◌∙◌, arith, eq-eqb, w64}
use Rattle.std.specs.Prelude.{bit_and, bit_or}
use Rattle.std.specs.Int.{bit_at}
use Rattle.std.proofs.lemmas.Bool.{cases_eq, cases_lt, ne_eqb, or_right}
use Rattle.std.proofs.lemmas.List.{get_or-set_same, get_or-set_other, get_or-replicate, get_or_past, length-replicate}
use Rattle.std.proofs.lemmas.Nat.Bits.{bit_at-zero, shr_and_one, bit_at_set_same, bit_at_set_other}
use Rattle.order_witness.specs.Bits.{has_bit}

-- the test that the code makes
pub tested : (words : List ℕ) (word n : ℕ) → get_or words (n / 64) 0 ≡ word → eqb (bit_and (word / 2 ^ (n % 64)) 1) 1 ≡ has_bit words n
unfolding has_bit
tested words word n is = ap (λ x. eqb x 1) (shr_and_one word (n % 64)) ∙ ap (λ x. eqb (bit_at x (n % 64)) 1) (sym is)

-- past the last word there is nothing
pub past : (words : List ℕ) (n : ℕ) → get_or words (n / 64) 0 ≡ 0 → has_bit words n ≡ false
unfolding has_bit
past words n none = ap (λ x. eqb (bit_at x (n % 64)) 1) none ∙ ap (λ x. eqb x 1) (bit_at-zero (n % 64))

-- in a list of zeroes nothing is set
pub of_zeroes : (count n : ℕ) → has_bit (replicate count 0) n ≡ false
of_zeroes count n =
    past (replicate count 0) n (elim (cases_lt (n / 64) count) [
      | inl within ↦ get_or-replicate count (n / 64) 0 0 within
      | inr beyond ↦ get_or_past (replicate count 0) (n / 64) 0 (omega (arith, length-replicate {A = ℕ} count 0))
    ])

-- the place of a number: its word, and its bit there
same_place : (m n : ℕ) → m / 64 ≡ n / 64 → m % 64 ≡ n % 64 → m ≡ n
same_place m n q r = omega arith

other_false : (x : Bool) → (x || false) ≡ x
other_false true = refl
other_false false = refl

-- what a bit that is set does to the set
pub of_set : (words : List ℕ) (number n : ℕ) → number / 64 < length words
    → has_bit (set words (number / 64) (bit_or (get_or words (number / 64) 0) (1 * 2 ^ (number % 64) % 2 ^ 64))) n ≡ (has_bit words n || eqb n number)
unfolding has_bit
of_set words number n within =
    let word : ℕ = bit_or (get_or words (number / 64) 0) (1 * 2 ^ (number % 64) % 2 ^ 64) in
    let small : number % 64 < 64 = omega arith in
    elim (cases_eq (n / 64) (number / 64)) [
      | inr elsewhere ↦
          ap (λ x. eqb (bit_at x (n % 64)) 1) (get_or-set_other words (number / 64) (n / 64) word 0 elsewhere)
          ∙ sym (ap (λ b. eqb (bit_at (get_or words (n / 64) 0) (n % 64)) 1 || b) (ne_eqb n number (λ e. elsewhere (ap (λ x. x / 64) e))) ∙ other_false _)
      | inl here ↦
          ap (λ x. eqb (bit_at (get_or (set words (number / 64) word) x 0) (n % 64)) 1) here
          ∙ ap (λ x. eqb (bit_at x (n % 64)) 1) (get_or-set_same words (number / 64) word 0 within)
          ∙ elim (cases_eq (n % 64) (number % 64)) [
            | inl same ↦
                ap (λ k. eqb (bit_at word k) 1) same ∙ ap (λ x. eqb x 1) (bit_at_set_same w64 (get_or words (number / 64) 0) (number % 64) small)
                ∙ sym (or_right _ _ (eq-eqb n number (same_place n number here same)))
            | inr other ↦
                ap (λ x. eqb x 1) (bit_at_set_other w64 (get_or words (number / 64) 0) (number % 64) small (n % 64) other)
                ∙ ap (λ x. eqb (bit_at (get_or words x 0) (n % 64)) 1) (sym here)
                ∙ sym (ap (λ b. eqb (bit_at (get_or words (n / 64) 0) (n % 64)) 1 || b) (ne_eqb n number (λ e. other (ap (λ x. x % 64) e))) ∙ other_false _)
          ]
    ]
