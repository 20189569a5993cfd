-- The laws of clocks as one fact: what a proof over logs takes as its premise.
use Rattle.std.specs.Prelude.{◌≡◌, ◌⊎◌, ℕ, ◌+◌, ◌<◌, ◌≤◌, max, List, ◌∷◌, Contains, IsTrue}
use Rattle.weave_data.specs.Limits.{most_gates}
use Rattle.vector_stamp.specs.declared.clock.Clock.{Clock}
use Rattle.vector_stamp.specs.Order.{count_of, HasEightCounts, HaveEightCounts, CountsNonePast, is_before, is_at_most}
use Rattle.vector_stamp.specs.Clocks.{first_clock, clock_after_tick, clock_after_hearing, counts_no_more, meet_with}

pub record ClockLaws : Type 0 where
  -- The order
  pub at_most_itself : (a : Clock) → IsTrue (is_at_most a a)
  pub at_most_at_most : (a b c : Clock) → IsTrue (is_at_most a b) → IsTrue (is_at_most b c) → IsTrue (is_at_most a c)
  pub before_at_most : (a b c : Clock) → IsTrue (is_before a b) → IsTrue (is_at_most b c) → IsTrue (is_before a c)
  pub at_most_before : (a b c : Clock) → IsTrue (is_at_most a b) → IsTrue (is_before b c) → IsTrue (is_before a c)
  pub before_is_at_most : (a b : Clock) → IsTrue (is_before a b) → IsTrue (is_at_most a b)
  pub later_epoch : (a b : Clock) → a.epoch < b.epoch → IsTrue (is_before a b)
  pub at_most_each : (a b : Clock) → IsTrue (is_at_most a b) → (a.epoch < b.epoch)
      ⊎ ((a.epoch ≡ b.epoch) × ((gate : ℕ) → count_of gate a ≤ count_of gate b))
  -- A tick
  pub tick_is_later : (home : ℕ) (clock : Clock) → home < most_gates → HasEightCounts clock
      → IsTrue (is_before clock (clock_after_tick home clock))
  pub tick_counts : (home : ℕ) (clock : Clock) → home < most_gates → HasEightCounts clock
      → count_of home (clock_after_tick home clock) ≡ count_of home clock + 1
  pub tick_eight : (home : ℕ) (clock : Clock) → HasEightCounts clock → HasEightCounts (clock_after_tick home clock)
  -- Hearing
  pub hearing_epoch : (home : ℕ) (clock heard : Clock)
      → (clock_after_hearing home clock heard).epoch ≡ max clock.epoch heard.epoch
  pub hearing_lower : (home : ℕ) (clock heard : Clock) → heard.epoch < clock.epoch
      → clock_after_hearing home clock heard ≡ clock
  pub hearing_eight : (home : ℕ) (clock heard : Clock) → home < most_gates → HasEightCounts clock → HasEightCounts heard
      → HasEightCounts (clock_after_hearing home clock heard)
  pub hearing_is_later : (home : ℕ) (clock heard : Clock) → home < most_gates → HasEightCounts clock
      → HasEightCounts heard
      → IsTrue (is_at_most clock (clock_after_hearing home clock heard))
  pub hearing_own : (home : ℕ) (clock heard : Clock) → home < most_gates → HasEightCounts clock → HasEightCounts heard
      → heard.epoch ≡ clock.epoch → count_of home (clock_after_hearing home clock heard) ≡ count_of home clock
  pub hearing_higher : (home : ℕ) (clock heard : Clock) → home < most_gates → HasEightCounts clock
      → HasEightCounts heard
      → clock.epoch < heard.epoch → count_of home (clock_after_hearing home clock heard) ≡ 0
  pub then_rises : (home : ℕ) (clock heard : Clock) → home < most_gates → HasEightCounts clock → HasEightCounts heard
      → IsTrue (is_before clock (clock_after_tick home (clock_after_hearing home clock heard)))
  pub then_after : (home : ℕ) (clock heard : Clock) → home < most_gates → HasEightCounts clock → HasEightCounts heard
      → IsTrue (counts_no_more home clock heard)
      → IsTrue (is_before heard (clock_after_tick home (clock_after_hearing home clock heard)))
  -- The meet
  pub meet_below_each : (first : Clock) (rest : List Clock) → HaveEightCounts (first ∷ rest) → (clock : Clock)
      → Contains (first ∷ rest) clock → IsTrue (is_at_most (meet_with first rest) clock)
  pub meet_eight : (first : Clock) (rest : List Clock) → HaveEightCounts (first ∷ rest)
      → HasEightCounts (meet_with first rest)
  -- Counts past the gatekeepers
  pub first_none_past : (gates epoch : ℕ) → CountsNonePast gates (first_clock epoch)
  pub tick_none_past : (gates home : ℕ) (clock : Clock) → home < gates → CountsNonePast gates clock
      → CountsNonePast gates (clock_after_tick home clock)
  pub hearing_none_past : (gates home : ℕ) (clock heard : Clock) → CountsNonePast gates clock
      → CountsNonePast gates heard → CountsNonePast gates (clock_after_hearing home clock heard)
  pub meet_none_past : (gates : ℕ) (first : Clock) (rest : List Clock)
      → ((clock : Clock) → Contains (first ∷ rest) clock → CountsNonePast gates clock)
      → CountsNonePast gates (meet_with first rest)
