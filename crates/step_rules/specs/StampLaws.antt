-- What step_rules cites of clocks, stamps and precedence: laws of vector_stamp in one record. No public contract cites
-- this.
use Rattle.std.specs.Prelude.{◌≡◌, ◌≢◌, ◌↔◌, ℕ, ◌+◌, ◌<◌, ◌≤◌, max, List, [], ◌∷◌, ◌++◌, length, slice_get, Some, None, IsTrue, Contains, if◌then◌else◌}
use Rattle.weave_data.specs.Limits.{most_gates}
use Rattle.vector_stamp.specs.declared.clock.Clock.{Clock}
use Rattle.vector_stamp.specs.declared.clock.Stamp.{Stamp}
use Rattle.vector_stamp.specs.Order.{count_of, HasEightCounts, is_before, is_at_most, unordered, same_stamp, id_of, same_id}
use Rattle.vector_stamp.specs.Clocks.{first_clock, clock_after_tick, clock_after_hearing, counts_no_more, meet_of}
use Rattle.vector_stamp.specs.Coherence.{AreCoherent}
use Rattle.vector_stamp.specs.Precedence.{GivenPair, AreAmong, IsClosed, Precedes, precedes}
use Rattle.vector_stamp.specs.Seeing.{is_seen, seen_of, last_seen}
use Rattle.vector_stamp.specs.Settling.{refused_place, additions_from, pairs_of}

-- What step_rules cites of clocks, stamps and precedence: laws of vector_stamp in one record.
pub record StampLaws : Type 0 where
  -- hearing_brings_order
  pub heard_of_lower : (home : ℕ) (clock heard : Clock) → heard.epoch < clock.epoch
      → clock_after_hearing home clock heard ≡ clock
  pub heard_never_back : (home : ℕ) (clock heard : Clock) → home < most_gates → HasEightCounts clock
      → HasEightCounts heard
      → IsTrue (is_at_most clock (clock_after_hearing home clock heard))
  pub heard_not_behind : (home : ℕ) (clock heard : Clock) → home < most_gates → HasEightCounts clock
      → HasEightCounts heard
      → IsTrue (counts_no_more home clock heard) → IsTrue (is_at_most heard (clock_after_hearing home clock heard))
  pub heard_then_after : (home : ℕ) (clock heard : Clock) → home < most_gates → HasEightCounts clock
      → HasEightCounts heard
      → IsTrue (counts_no_more home clock heard)
      → IsTrue (is_before heard (clock_after_tick home (clock_after_hearing home clock heard)))
  pub heard_then_rises : (home : ℕ) (clock heard : Clock) → home < most_gates → HasEightCounts clock
      → HasEightCounts heard
      → IsTrue (is_before clock (clock_after_tick home (clock_after_hearing home clock heard)))
  -- counts_one_by_one
  pub count_ticked : (home : ℕ) (clock : Clock) → home < most_gates → HasEightCounts clock
      → count_of home (clock_after_tick home clock) ≡ count_of home clock + 1
  pub count_not_ticked : (home gate : ℕ) (clock : Clock) → gate ≢ home
      → count_of gate (clock_after_tick home clock) ≡ count_of gate clock
  pub count_own : (home : ℕ) (clock heard : Clock) → home < most_gates → HasEightCounts clock → HasEightCounts heard
      → heard.epoch ≡ clock.epoch → count_of home (clock_after_hearing home clock heard) ≡ count_of home clock
  pub count_others : (home gate : ℕ) (clock heard : Clock) → home < most_gates → HasEightCounts clock
      → HasEightCounts heard
      → heard.epoch ≡ clock.epoch → gate ≢ home
      → count_of gate (clock_after_hearing home clock heard) ≡ max (count_of gate clock) (count_of gate heard)
  pub count_own_of_higher : (home : ℕ) (clock heard : Clock) → home < most_gates → HasEightCounts clock
      → HasEightCounts heard
      → clock.epoch < heard.epoch → count_of home (clock_after_hearing home clock heard) ≡ 0
  pub count_others_of_higher : (home gate : ℕ) (clock heard : Clock) → home < most_gates → HasEightCounts clock
      → HasEightCounts heard → clock.epoch < heard.epoch → gate ≢ home
      → count_of gate (clock_after_hearing home clock heard) ≡ count_of gate heard
  pub count_eight_ticked : (home : ℕ) (clock : Clock) → HasEightCounts clock
      → HasEightCounts (clock_after_tick home clock)
  pub count_eight_heard : (home : ℕ) (clock heard : Clock) → home < most_gates → HasEightCounts clock
      → HasEightCounts heard
      → HasEightCounts (clock_after_hearing home clock heard)
  pub count_eight_met : (a b : Clock) → HasEightCounts a → HasEightCounts b → HasEightCounts (meet_of a b)
  pub count_eight_raised : (epoch : ℕ) → HasEightCounts (first_clock epoch)
  -- precedence_is_decided
  pub precedence_tested : (pairs : List GivenPair) (a b : Stamp) → Precedes pairs a b ↔ IsTrue (precedes pairs a b)
  pub precedence_closed : (pairs : List GivenPair) → IsClosed pairs (precedes pairs)
  -- more_pairs_more_precedence
  pub pairs_grows : (pairs others : List GivenPair) → AreAmong pairs others → (a b : Stamp)
      → IsTrue (precedes pairs a b)
      → IsTrue (precedes others a b)
  pub pairs_at_the_end : (pairs : List GivenPair) (pair : GivenPair) (a b : Stamp)
      → precedes (pairs ++ pair ∷ []) a b ≡ precedes (pair ∷ pairs) a b
  -- settling_puts_all_before
  pub settled_all_precede : (pairs : List GivenPair) (earlier : List Stamp) (later event : Stamp)
      → Contains earlier event
      → IsTrue (precedes (pairs ++ pairs_of (additions_from 0 pairs earlier later) later) event later)
  pub settled_place_by_place : (pairs : List GivenPair) (earlier : List Stamp) (event later : Stamp)
      → additions_from 0 pairs (earlier ++ event ∷ []) later ≡ additions_from 0 pairs earlier later
      ++ (if precedes (pairs
      ++ pairs_of (additions_from 0 pairs earlier later) later) event later then [] else (length earlier, event) ∷ [])
  pub settled_in_place : (pairs : List GivenPair) (earlier : List Stamp) (later : Stamp) (place : ℕ) (event : Stamp)
      → Contains (additions_from 0 pairs earlier later) (place, event) → slice_get earlier place ≡ Some event
  pub settled_still_permitted : (pairs : List GivenPair) (earlier : List Stamp) (later event : Stamp)
      → ((other : Stamp) → Contains earlier other → other ≢ later) → refused_place pairs earlier later ≡ None
      → ¬ IsTrue (precedes pairs later event) → ¬ IsTrue (precedes (pairs
      ++ pairs_of (additions_from 0 pairs earlier later) later) later event)
  pub settled_of_earlier : (pairs : List GivenPair) (earlier : List Stamp) (later a b : Stamp)
      → Contains (pairs_of (additions_from 0 pairs earlier later) later) (a, b) → Contains earlier a × (b ≡ later)
  pub settled_left_open : (pairs : List GivenPair) (earlier : List Stamp) (later a b : Stamp)
      → refused_place pairs earlier later ≡ None
      → Contains (pairs_of (additions_from 0 pairs earlier later) later) (a, b) → IsTrue (unordered a b)
  -- the_last_update_read_is_seen
  pub seen_within : (pairs : List GivenPair) (program : Stamp) (updates : List Stamp)
      → seen_of pairs program updates ≤ length updates
  pub seen_last : (pairs : List GivenPair) (program update : Stamp) (updates : List Stamp) (before : ℕ)
      → seen_of pairs program updates ≡ before + 1 → slice_get updates before ≡ Some update
      → IsTrue (is_seen pairs program update)
  pub seen_skipped : (pairs : List GivenPair) (program update : Stamp) (updates : List Stamp) (place : ℕ)
      → seen_of pairs program updates ≤ place → slice_get updates place ≡ Some update
      → ¬ IsTrue (is_seen pairs program update)
  pub seen_named : (updates : List Stamp) (update : Stamp) (before : ℕ) → slice_get updates before ≡ Some update
      → last_seen (before + 1) updates ≡ update ∷ []
  -- coherent_stamps_have_ids
  pub coherent_ids : (stamps : List Stamp) (a b : Stamp) → AreCoherent stamps → Contains stamps a → Contains stamps b
      → a ≢ b → id_of a ≢ id_of b
  -- equality_is_decided
  pub same_stamps : (a b : Stamp) → IsTrue (same_stamp a b) ↔ (a ≡ b)
  pub same_ids : (a b : Stamp) → IsTrue (same_id a b) ↔ (id_of a ≡ id_of b)
