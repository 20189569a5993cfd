-- The meet of two clocks.
-- Used by `counts_one_by_one`, `meet_is_greatest_below`, MeetsOfLists and NonePast.
use Rattle.std.proofs.Common.{◌≡◌, ℕ, ◌<◌, ◌≤◌, IsTrue, inl, inr, length, min, slice_index, refl, sym, ◌∙◌, subst, arith}
use Rattle.std.proofs.lemmas.Bool.{cases_lt, cases_order, lt-ltb, le-ltb, cond-true, cond-false}
use Rattle.vector_stamp.specs.declared.clock.Clock.{Clock}
use Rattle.vector_stamp.specs.Order.{count_of, HasEightCounts, is_at_most}
use Rattle.vector_stamp.specs.Clocks.{lesser_counts, meet_of}
use Rattle.vector_stamp.proofs.Counts.{at_most-by, at_most-at, at_most-long}
use Rattle.vector_stamp.proofs.Eight.{length-picked, past-eighth, picked-at}
use Rattle.vector_stamp.proofs.Orders.{at_most_read, at_most_write, at_most_clock-refl}

module _ (a b : Clock) where
  -- the meet within one epoch
  abbrev pub of_one : Clock
  of_one = record { epoch = a.epoch; counts = lesser_counts a.counts b.counts }

  -- the meet of two clocks is the first if that has the lower epoch
  pub meet-first : a.epoch < b.epoch → meet_of a b ≡ a
  meet-first less = cond-true _ _ _ (lt-ltb a.epoch b.epoch less)

  -- it is the second if that has the lower epoch
  pub meet-second : b.epoch < a.epoch → meet_of a b ≡ b
  meet-second less = cond-false _ _ _ (le-ltb a.epoch b.epoch (omega arith)) ∙ cond-true _ _ _ (lt-ltb b.epoch a.epoch less)

  -- within one epoch it has the lesser of the two counts of each gatekeeper
  pub meet-one : a.epoch ≡ b.epoch → meet_of a b ≡ of_one
  meet-one same = cond-false _ _ _ (le-ltb a.epoch b.epoch (omega arith)) ∙ cond-false _ _ _ (le-ltb b.epoch a.epoch (omega arith))

  module _ (eight_a : HasEightCounts a) (eight_b : HasEightCounts b) where
    lesser-eight : length (lesser_counts a.counts b.counts) ≡ 8
    lesser-eight = length-picked min a.counts b.counts eight_a eight_b

    -- the meet of two clocks of eight counts has eight counts
    pub meet-eight : HasEightCounts (meet_of a b)
    meet-eight =
        elim (cases_order a.epoch b.epoch) [
          | inl same ↦ rw (meet-one same) lesser-eight
          | inr (inl less) ↦ rw (meet-first less) eight_a
          | inr (inr less) ↦ rw (meet-second less) eight_b
        ]

    -- of clocks of eight counts, the lesser counts have for each gatekeeper the lesser of its two counts
    pub lesser-at : (k : ℕ) → slice_index (lesser_counts a.counts b.counts) k ≡ min (count_of k a) (count_of k b)
    lesser-at k =
        elim (cases_lt k 8) [
          | inl within ↦ picked-at min a.counts b.counts k eight_a eight_b within
          | inr over ↦
              let x = past-eighth (lesser_counts a.counts b.counts) k lesser-eight over in
              let y = past-eighth a.counts k eight_a over in
              let z = past-eighth b.counts k eight_b over in
              omega arith
        ]

    -- within one epoch
    one_at_most : (c : Clock) → a.epoch ≡ c.epoch → HasEightCounts c → ((k : ℕ) → min (count_of k a) (count_of k b) ≤ count_of k c) → IsTrue (is_at_most of_one c)
    one_at_most c epoch eight each =
        at_most_write of_one c (inr (epoch, at_most-by of_one.counts c.counts (lesser-eight ∙ sym eight) (λ k. let e = lesser-at k in let h = each k in omega arith)))

    -- the meet of two clocks of eight counts is at most the first
    pub meet_at_most-first : IsTrue (is_at_most (meet_of a b) a)
    meet_at_most-first =
        elim (cases_order a.epoch b.epoch) [
          | inl same ↦ subst (λ (x : Clock). IsTrue (is_at_most x a)) (sym (meet-one same)) (one_at_most a refl eight_a (λ k. omega arith))
          | inr (inl less) ↦ subst (λ (x : Clock). IsTrue (is_at_most x a)) (sym (meet-first less)) (at_most_clock-refl a)
          | inr (inr less) ↦ subst (λ (x : Clock). IsTrue (is_at_most x a)) (sym (meet-second less)) (at_most_write b a (inl less))
        ]

    -- and it is at most the second
    pub meet_at_most-second : IsTrue (is_at_most (meet_of a b) b)
    meet_at_most-second =
        elim (cases_order a.epoch b.epoch) [
          | inl same ↦ subst (λ (x : Clock). IsTrue (is_at_most x b)) (sym (meet-one same)) (one_at_most b same eight_b (λ k. omega arith))
          | inr (inl less) ↦ subst (λ (x : Clock). IsTrue (is_at_most x b)) (sym (meet-first less)) (at_most_write a b (inl less))
          | inr (inr less) ↦ subst (λ (x : Clock). IsTrue (is_at_most x b)) (sym (meet-second less)) (at_most_clock-refl b)
        ]

    -- within one epoch, what is at most both is at most the meet
    at_most-one : (c : Clock) → a.epoch ≡ b.epoch → IsTrue (is_at_most c a) → IsTrue (is_at_most c b) → IsTrue (is_at_most c of_one)
    at_most-one c same under_a under_b =
        elim (at_most_read c a under_a) [
          | inl less ↦ at_most_write c of_one (inl less)
          | inr with_a ↦ elim (at_most_read c b under_b) [
            | inl less ↦ at_most_write c of_one (inl (let e = with_a.0 in omega arith))
            | inr with_b ↦ at_most_write c of_one (inr (
              with_a.0,
              at_most-by c.counts of_one.counts (at_most-long c.counts a.counts with_a.1 ∙ eight_a ∙ sym lesser-eight) (λ k. let e = lesser-at k in let x = at_most-at c.counts a.counts k with_a.1 in let y = at_most-at c.counts b.counts k with_b.1 in omega arith),
            ))
          ]
        ]

    -- a clock that is at most both of two clocks of eight counts is at most their meet
    pub at_most-meet : (c : Clock) → IsTrue (is_at_most c a) → IsTrue (is_at_most c b) → IsTrue (is_at_most c (meet_of a b))
    at_most-meet c under_a under_b =
        elim (cases_order a.epoch b.epoch) [
          | inl same ↦ subst (λ (x : Clock). IsTrue (is_at_most c x)) (sym (meet-one same)) (at_most-one c same under_a under_b)
          | inr (inl less) ↦ subst (λ (x : Clock). IsTrue (is_at_most c x)) (sym (meet-first less)) under_a
          | inr (inr less) ↦ subst (λ (x : Clock). IsTrue (is_at_most c x)) (sym (meet-second less)) under_b
        ]

    -- the meet of two clocks of one epoch has for each gatekeeper the lesser of its two counts
    pub count-meet : a.epoch ≡ b.epoch → (gate : ℕ) → count_of gate (meet_of a b) ≡ min (count_of gate a) (count_of gate b)
    count-meet same gate = rw (meet-one same) (lesser-at gate)
