-- A count is set, and a clock ticks.
-- Used by `clocks_keep_the_laws`, `counts_one_by_one`, `ticks_rise` and Hearing.
use Rattle.std.proofs.Common.{◌≡◌, ℕ, ◌+◌, ◌<◌, ◌≤◌, IsTrue, inl, inr, List, length, slice_index, slice_set, refl, sym, ap, subst, arith}
use Rattle.std.proofs.lemmas.Bool.{cases_eq}
use Rattle.std.proofs.lemmas.List.{length-set, get_or-set_same, get_or-set_other}
use Rattle.vector_stamp.specs.declared.clock.Clock.{Clock}
use Rattle.vector_stamp.specs.Order.{count_of, HasEightCounts, is_before}
use Rattle.vector_stamp.specs.Clocks.{clock_after_tick}
use Rattle.vector_stamp.proofs.Counts.{at_most-by}
use Rattle.vector_stamp.proofs.Orders.{before_write}

-- if the count of a gatekeeper is set in a list of eight, it is what it was set to
pub own-set : (counts : List ℕ) (home value : ℕ) → home < 8 → length counts ≡ 8 → slice_index (slice_set counts home value) home ≡ value
own-set counts home value below eight = get_or-set_same counts home value 0 (omega (arith, eight))

-- if the count of a gatekeeper is set, that of each other one stays
pub other-set : (counts : List ℕ) (home value gate : ℕ) → (gate ≡ home → ⊥) → slice_index (slice_set counts home value) gate ≡ slice_index counts gate
other-set counts home value gate other = get_or-set_other counts home gate value 0 other

-- each count of a list is at most that of one whose count of the home is set
pub below_set : (xs counts : List ℕ) (home value : ℕ) → home < 8 → length counts ≡ 8 → slice_index xs home ≤ value → ((k : ℕ) → (k ≡ home → ⊥) → slice_index xs k ≤ slice_index counts k) → (k : ℕ) → slice_index xs k ≤ slice_index (slice_set counts home value) k
below_set xs counts home value below eight own others k =
    elim (cases_eq k home) [
      | inl e ↦ subst (λ n. slice_index xs n ≤ slice_index (slice_set counts home value) n) (sym e) (let is = own-set counts home value below eight in omega arith)
      | inr other ↦ let same = other-set counts home value k other in let h = others k other in omega arith
    ]

-- a clock is before the stamp of the next tick
pub tick-before : (home : ℕ) (clock : Clock) → home < 8 → HasEightCounts clock → IsTrue (is_before clock (clock_after_tick home clock))
tick-before home clock below eight =
    let more = count_of home clock + 1 in
    before_write clock (clock_after_tick home clock) (inr (
      refl,
      at_most-by clock.counts (slice_set clock.counts home more) (sym (length-set _ _ _)) (below_set clock.counts clock.counts home more below eight (omega arith) (λ k other. omega arith)),
      λ same. let e : count_of home clock ≡ slice_index (slice_set clock.counts home more) home = ap (λ xs. slice_index xs home) same in let is = own-set clock.counts home more below eight in omega arith,
    ))
