-- A map has enough places, and for more pairs no fewer.
-- Used by Kept.
use Rattle.std.proofs.Common.{◌≡◌, ℕ, ◌+◌, ◌*◌, ◌/◌, ◌≤◌, true, false, cond, nat_le, refl, arith}
use Rattle.std.proofs.lemmas.Bool.Decides.{nat_tests}
use Rattle.weave_data.specs.Changes.{places}

-- a map of n pairs has at least n places
pub enough : (n : ℕ) → n ≤ places n
enough n =
    elim (nat_le n 16) as (λ b. n ≤ cond b ((n + 3) / 4 * 4) ((n + 63) / 64 * 64)) [
      | true ↦ omega arith
      | false ↦ omega arith
    ]

-- for one pair more a map has no fewer places
pub no_fewer : (n : ℕ) → places n ≤ places (n + 1)
no_fewer n =
    elim (nat_le n 16) as (λ b. nat_le n 16 ≡ b → cond b ((n + 3) / 4 * 4) ((n + 63) / 64 * 64) ≤ places (n + 1)) [
      | true ↦ λ low. elim (nat_le (n + 1) 16) as (λ b. (n + 3) / 4 * 4 ≤ cond b ((n + 1 + 3) / 4 * 4) ((n + 1 + 63) / 64 * 64)) [
        | true ↦ omega arith
        | false ↦ grind (arith, nat_tests)
      ]
      | false ↦ λ high. elim (nat_le (n + 1) 16) as (λ b. nat_le (n + 1) 16 ≡ b → (n + 63) / 64 * 64 ≤ cond b ((n + 1 + 3) / 4 * 4) ((n + 1 + 63) / 64 * 64)) [
        | true ↦ λ low. grind (arith, nat_tests)
        | false ↦ λ _. omega arith
      ] refl
    ] refl
