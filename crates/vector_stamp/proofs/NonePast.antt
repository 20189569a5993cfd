-- Counts past the number of gatekeepers stay 0.
-- Used by `clocks_keep_the_laws` and `counts_past_the_gatekeepers_stay_0`.
use Rattle.std.proofs.Common.{◌≡◌, ◌≢◌, ℕ, zero, suc, ◌+◌, ◌<◌, ◌≤◌, List, [], ◌∷◌, length, max, min, slice_index, slice_set, Contains, inl, inr, sym, ap, subst, ◌∙◌, arith}
use Rattle.std.proofs.lemmas.Bool.{cases_eq, cases_lt, cases_order}
use Rattle.std.proofs.lemmas.List.{get_or_past, get_or-set_same, get_or-set_other, length-set}
use Rattle.weave_data.proofs.Members.{has_read, has_head, has_tail}
use Rattle.vector_stamp.specs.declared.clock.Clock.{Clock}
use Rattle.vector_stamp.specs.Order.{count_of, CountsNonePast}
use Rattle.vector_stamp.specs.Clocks.{clock_after_tick, clock_after_hearing, greater_counts, lesser_counts, meet_of, meet_with}
use Rattle.vector_stamp.proofs.Hearing.{hearing-lower, hearing-own, hearing-higher}
use Rattle.vector_stamp.proofs.Meeting.{meet-first, meet-second, meet-one}

greater-under : (xs ys : List ℕ) (k : ℕ) → slice_index (greater_counts xs ys) k ≤ max (slice_index xs k) (slice_index ys k)
greater-under [] ys k = omega arith
greater-under (x ∷ xs) [] k = omega arith
greater-under (x ∷ xs) (y ∷ ys) zero = omega arith
greater-under (x ∷ xs) (y ∷ ys) (suc k) = greater-under xs ys k

lesser-under : (xs ys : List ℕ) (k : ℕ) → slice_index (lesser_counts xs ys) k ≤ min (slice_index xs k) (slice_index ys k)
lesser-under [] ys k = omega arith
lesser-under (x ∷ xs) [] k = omega arith
lesser-under (x ∷ xs) (y ∷ ys) zero = omega arith
lesser-under (x ∷ xs) (y ∷ ys) (suc k) = lesser-under xs ys k

-- a count is set, and all is 0 there
set-none : (xs : List ℕ) (home value k : ℕ) → (k ≡ home → value ≡ 0) → (k ≢ home → slice_index xs k ≡ 0) → slice_index (slice_set xs home value) k ≡ 0
set-none xs home value k own others =
    elim (cases_eq k home) [
      | inl here ↦ subst (λ n. slice_index (slice_set xs home value) n ≡ 0) (sym here) (elim (cases_lt home (length xs)) [
        | inl within ↦ get_or-set_same xs home value 0 within ∙ own here
        | inr past ↦ get_or_past (slice_set xs home value) home 0 (omega (arith, length-set xs home value))
      ])
      | inr other ↦ get_or-set_other xs home k value 0 other ∙ others other
    ]

-- a clock that counts none past the gatekeepers counts none there after a tick of one of them
pub tick-none : (gates home : ℕ) (clock : Clock) → home < gates → CountsNonePast gates clock → CountsNonePast gates (clock_after_tick home clock)
tick-none gates home clock below none gate past =
    set-none clock.counts home (count_of home clock + 1) gate (λ here. absurd (omega arith)) (λ other. none gate past)

-- a clock that counts none past the gatekeepers counts none there after it hears another such clock
pub hearing-none : (gates home : ℕ) (clock heard : Clock) → CountsNonePast gates clock → CountsNonePast gates heard → CountsNonePast gates (clock_after_hearing home clock heard)
hearing-none gates home clock heard none none_heard =
    elim (cases_order heard.epoch clock.epoch) [
      | inl same ↦ subst (CountsNonePast gates) (sym (hearing-own home clock heard same)) (λ gate past.
          set-none (greater_counts clock.counts heard.counts) home (count_of home clock) gate
          (λ here. ap (λ n. count_of n clock) (sym here) ∙ none gate past)
          (λ other. let a = none gate past in let b = none_heard gate past in let under = greater-under clock.counts heard.counts gate in omega arith))
      | inr (inl lower) ↦ subst (CountsNonePast gates) (sym (hearing-lower home clock heard lower)) none
      | inr (inr higher) ↦ subst (CountsNonePast gates) (sym (hearing-higher home clock heard higher)) (λ gate past. set-none heard.counts home 0 gate (λ here. omega arith) (λ other. none_heard gate past))
    ]

-- the meet of two clocks that count none past the gatekeepers counts none there
pub meet-none : (gates : ℕ) (a b : Clock) → CountsNonePast gates a → CountsNonePast gates b → CountsNonePast gates (meet_of a b)
meet-none gates a b none_a none_b =
    elim (cases_order a.epoch b.epoch) [
      | inl same ↦ subst (CountsNonePast gates) (sym (meet-one a b same)) (λ gate past. let x = none_a gate past in let under = lesser-under a.counts b.counts gate in omega arith)
      | inr (inl less) ↦ subst (CountsNonePast gates) (sym (meet-first a b less)) none_a
      | inr (inr less) ↦ subst (CountsNonePast gates) (sym (meet-second a b less)) none_b
    ]

-- the meet of any number of clocks that count none past the gatekeepers counts none there
pub meet_with-none : (gates : ℕ) (first : Clock) (rest : List Clock) → ((clock : Clock) → Contains (first ∷ rest) clock → CountsNonePast gates clock) → CountsNonePast gates (meet_with first rest)
meet_with-none gates first [] none = none first (has_head first [])
meet_with-none gates first (next ∷ rest) none =
    meet_with-none gates (meet_of first next) rest (λ clock has.
    elim (has_read (meet_of first next) rest clock has) [
      | inl here ↦ subst (CountsNonePast gates) here (meet-none gates first next (none first (has_head first (next ∷ rest))) (none next (has_tail first (next ∷ rest) next (has_head next rest))))
      | inr there ↦ none clock (has_tail first (next ∷ rest) clock (has_tail next rest clock there))
    ])
