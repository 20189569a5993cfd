-- A gatekeeper hears a clock.
-- Used by `clocks_keep_the_laws`, `counts_one_by_one`, `hearing_brings_order` and NonePast.
use Rattle.std.proofs.Common.{◌≡◌, ℕ, ◌<◌, ◌≤◌, IsTrue, inl, inr, length, max, slice_index, slice_set, refl, sym, ◌∙◌, subst, arith}
use Rattle.std.proofs.lemmas.Bool.{cases_lt, cases_order, lt-ltb, le-ltb, leb-true, eqb-true, cond-true, cond-false}
use Rattle.std.proofs.lemmas.List.{length-set}
use Rattle.vector_stamp.specs.declared.clock.Clock.{Clock}
use Rattle.vector_stamp.specs.Order.{count_of, HasEightCounts, is_before, is_at_most}
use Rattle.vector_stamp.specs.Clocks.{clock_after_tick, clock_after_hearing, counts_no_more, greater_counts}
use Rattle.vector_stamp.proofs.Counts.{at_most-by}
use Rattle.vector_stamp.proofs.Eight.{length-picked, past-eighth, picked-at}
use Rattle.vector_stamp.proofs.Orders.{at_most_write, at_most_clock-refl, at_most-before}
use Rattle.vector_stamp.proofs.Ticks.{own-set, other-set, below_set, tick-before}

module _ (home : ℕ) (clock heard : Clock) where
  -- what it hears of a higher epoch, and of its own
  abbrev pub of_higher : Clock
  of_higher = record { epoch = heard.epoch; counts = slice_set heard.counts home 0 }

  abbrev pub of_own : Clock
  of_own = record { epoch = clock.epoch; counts = slice_set (greater_counts clock.counts heard.counts) home (count_of home clock) }

  -- when the gatekeeper hears a clock of a lower epoch, its clock stays as it is
  pub hearing-lower : heard.epoch < clock.epoch → clock_after_hearing home clock heard ≡ clock
  hearing-lower lower = cond-true _ _ _ (lt-ltb heard.epoch clock.epoch lower)

  -- when it hears a clock of a higher epoch, it takes that over, with 0 as its own count
  pub hearing-higher : clock.epoch < heard.epoch → clock_after_hearing home clock heard ≡ of_higher
  hearing-higher higher = cond-false _ _ _ (le-ltb heard.epoch clock.epoch (omega arith)) ∙ cond-true _ _ _ (lt-ltb clock.epoch heard.epoch higher)

  -- when it hears a clock of its epoch, it takes each greater count of the others, and keeps its own count
  pub hearing-own : heard.epoch ≡ clock.epoch → clock_after_hearing home clock heard ≡ of_own
  hearing-own same = cond-false _ _ _ (le-ltb heard.epoch clock.epoch (omega arith)) ∙ cond-false _ _ _ (le-ltb clock.epoch heard.epoch (omega arith))

  -- a heard clock of a higher epoch that counts no more of the gatekeeper's events than it made counts none
  pub no_more-higher : clock.epoch < heard.epoch → IsTrue (counts_no_more home clock heard) → count_of home heard ≡ 0
  no_more-higher higher h =
      eqb-true _ _ (sym (cond-false _ _ _ (le-ltb heard.epoch clock.epoch (omega arith)) ∙ cond-true _ _ _ (lt-ltb clock.epoch heard.epoch higher)) ∙ h)

  -- one of its epoch that counts no more of its events than it made counts at most the own count
  pub no_more-own : heard.epoch ≡ clock.epoch → IsTrue (counts_no_more home clock heard) → count_of home heard ≤ count_of home clock
  no_more-own same h =
      leb-true _ _ (sym (cond-false _ _ _ (le-ltb heard.epoch clock.epoch (omega arith)) ∙ cond-false _ _ _ (le-ltb clock.epoch heard.epoch (omega arith))) ∙ h)

  module _ (below : home < 8) (eight : HasEightCounts clock) (eight_heard : HasEightCounts heard) where
    greater-eight : length (greater_counts clock.counts heard.counts) ≡ 8
    greater-eight = length-picked max clock.counts heard.counts eight eight_heard

    -- if both clocks have eight counts, so has the clock after hearing
    pub hearing-eight : HasEightCounts (clock_after_hearing home clock heard)
    hearing-eight =
        elim (cases_order heard.epoch clock.epoch) [
          | inl same ↦ rw (hearing-own same) (length-set _ _ _ ∙ greater-eight)
          | inr (inl lower) ↦ rw (hearing-lower lower) eight
          | inr (inr higher) ↦ rw (hearing-higher higher) (length-set _ _ _ ∙ eight_heard)
        ]

    -- of clocks of eight counts, the greater counts have for each gatekeeper the greater of its two counts
    pub greater-at : (k : ℕ) → slice_index (greater_counts clock.counts heard.counts) k ≡ max (count_of k clock) (count_of k heard)
    greater-at k =
        elim (cases_lt k 8) [
          | inl within ↦ picked-at max clock.counts heard.counts k eight eight_heard within
          | inr over ↦
              let a = past-eighth (greater_counts clock.counts heard.counts) k greater-eight over in
              let b = past-eighth clock.counts k eight over in
              let d = past-eighth heard.counts k eight_heard over in
              omega arith
        ]

    at_most-own : (other : Clock) → other.epoch ≡ clock.epoch → HasEightCounts other → count_of home other ≤ count_of home clock → ((k : ℕ) → count_of k other ≤ max (count_of k clock) (count_of k heard)) → IsTrue (is_at_most other of_own)
    at_most-own other epoch eight_other own each =
        at_most_write other of_own (inr (
          epoch,
          at_most-by other.counts of_own.counts (eight_other ∙ sym (length-set _ _ _ ∙ greater-eight)) (below_set other.counts (greater_counts clock.counts heard.counts) home (count_of home clock) below greater-eight own (λ k _. let e = greater-at k in let h = each k in omega arith)),
        ))

    at_most-higher : count_of home heard ≡ 0 → IsTrue (is_at_most heard of_higher)
    at_most-higher none =
        at_most_write heard of_higher (inr (
          refl,
          at_most-by heard.counts of_higher.counts (sym (length-set _ _ _)) (below_set heard.counts heard.counts home 0 below eight_heard (omega arith) (λ k _. omega arith)),
        ))

    -- its clock never goes back
    pub own_at_most-hearing : IsTrue (is_at_most clock (clock_after_hearing home clock heard))
    own_at_most-hearing =
        elim (cases_order heard.epoch clock.epoch) [
          | inl same ↦ subst (λ (x : Clock). IsTrue (is_at_most clock x)) (sym (hearing-own same)) (at_most-own clock refl eight (omega arith) (λ k. omega arith))
          | inr (inl lower) ↦ subst (λ (x : Clock). IsTrue (is_at_most clock x)) (sym (hearing-lower lower)) (at_most_clock-refl clock)
          | inr (inr higher) ↦ subst (λ (x : Clock). IsTrue (is_at_most clock x)) (sym (hearing-higher higher)) (at_most_write clock of_higher (inl higher))
        ]

    -- and the heard clock is at most that one, if it counts no more of the gatekeeper's events than it made
    pub heard_at_most-hearing : IsTrue (counts_no_more home clock heard) → IsTrue (is_at_most heard (clock_after_hearing home clock heard))
    heard_at_most-hearing h =
        elim (cases_order heard.epoch clock.epoch) [
          | inl same ↦ subst (λ (x : Clock). IsTrue (is_at_most heard x)) (sym (hearing-own same)) (at_most-own heard same eight_heard (no_more-own same h) (λ k. omega arith))
          | inr (inl lower) ↦ subst (λ (x : Clock). IsTrue (is_at_most heard x)) (sym (hearing-lower lower)) (at_most_write heard clock (inl lower))
          | inr (inr higher) ↦ subst (λ (x : Clock). IsTrue (is_at_most heard x)) (sym (hearing-higher higher)) (at_most-higher (no_more-higher higher h))
        ]

    -- the gatekeeper's own clock is before the next stamp
    pub own_before-stamp : IsTrue (is_before clock (clock_after_tick home (clock_after_hearing home clock heard)))
    own_before-stamp = at_most-before clock (clock_after_hearing home clock heard) (clock_after_tick home (clock_after_hearing home clock heard)) own_at_most-hearing (tick-before home (clock_after_hearing home clock heard) below hearing-eight)

    -- the heard clock is before the next stamp, if it counts no more of the gatekeeper's events than it made
    pub heard_before-stamp : IsTrue (counts_no_more home clock heard) → IsTrue (is_before heard (clock_after_tick home (clock_after_hearing home clock heard)))
    heard_before-stamp h = at_most-before heard (clock_after_hearing home clock heard) (clock_after_tick home (clock_after_hearing home clock heard)) (heard_at_most-hearing h) (tick-before home (clock_after_hearing home clock heard) below hearing-eight)

    -- after hearing a clock of its epoch, the own count is as before
    pub own_count-hearing : heard.epoch ≡ clock.epoch → count_of home (clock_after_hearing home clock heard) ≡ count_of home clock
    own_count-hearing same = rw (hearing-own same) (own-set (greater_counts clock.counts heard.counts) home (count_of home clock) below greater-eight)

    -- after hearing a clock of its epoch, the count of each other gatekeeper is the greater of the two
    pub other_count-hearing : heard.epoch ≡ clock.epoch → (gate : ℕ) → (gate ≡ home → ⊥) → count_of gate (clock_after_hearing home clock heard) ≡ max (count_of gate clock) (count_of gate heard)
    other_count-hearing same gate other = rw (hearing-own same) (other-set (greater_counts clock.counts heard.counts) home (count_of home clock) gate other ∙ greater-at gate)

    -- after hearing a clock of a higher epoch, the own count is 0
    pub own_count-higher : clock.epoch < heard.epoch → count_of home (clock_after_hearing home clock heard) ≡ 0
    own_count-higher higher = rw (hearing-higher higher) (own-set heard.counts home 0 below eight_heard)

    -- after hearing a clock of a higher epoch, the count of each other gatekeeper is the heard one
    pub other_count-higher : clock.epoch < heard.epoch → (gate : ℕ) → (gate ≡ home → ⊥) → count_of gate (clock_after_hearing home clock heard) ≡ count_of gate heard
    other_count-higher higher gate other = rw (hearing-higher higher) (other-set heard.counts home 0 gate other)
