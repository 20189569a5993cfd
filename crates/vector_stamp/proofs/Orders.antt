-- The order of stamps is a strict order.
-- Used by `clocks_are_ordered`, `clocks_keep_the_laws`, `equality_is_decided`, `one_pair_joins_its_ends`,
-- `order_gate_by_gate`, `raising_starts_later`, `stamps_are_ordered`, Closure, Coherent, Events, Hearing, Meeting,
-- MeetsOfLists, Pairs, Ticks and Together.
use Rattle.std.proofs.Common.{◌≡◌, Bool, true, false, ◌&&◌, not, nat_lt, ◌==◌, IsTrue, ◌⊎◌, inl, inr, refl, sym, ap, subst, ◌∙◌, ◌<◌, arith}
use Rattle.std.proofs.lemmas.Bool.{eqb-true, ltb-true, lt-ltb, eq-eqb, cases_Bool, both_ways, and_from, or_cases, or_left, or_right}
use Rattle.vector_stamp.specs.declared.clock.Clock.{Clock}
use Rattle.vector_stamp.specs.declared.clock.Stamp.{Stamp}
use Rattle.vector_stamp.specs.Order.{counts_at_most, same_counts, is_before, is_at_most, clocks_unordered, stamp_before, same_clock, same_stamp}
use Rattle.vector_stamp.proofs.Reading.{both_left, both_right}
use Rattle.vector_stamp.proofs.Counts.{at_most-refl, at_most-trans, at_most-same, same_counts-refl, same_counts-is}

-- what the test says
abbrev pub BeforeFacts : Clock → Clock → Type 0
BeforeFacts a b = (a.epoch < b.epoch) ⊎ ((a.epoch ≡ b.epoch) × IsTrue (counts_at_most a.counts b.counts) × (a.counts ≡ b.counts → ⊥))

-- a test and its contrary do not both pass
pub not_true : (b : Bool) → IsTrue (not b) → IsTrue b → ⊥
not_true true g h = cc
not_true false g h = cc

-- the contrary of a test passes if the test doesn't
pub not_from : (b : Bool) → (IsTrue b → ⊥) → IsTrue (not b)
not_from true g = absurd (g refl)
not_from false g = refl

-- if a clock is before another, its epoch is lower, or the same and its counts are at most the other's and differ
pub before_read : (a b : Clock) → IsTrue (is_before a b) → BeforeFacts a b
before_read a b h =
    elim (or_cases (nat_lt a.epoch b.epoch) _ h) [
      | inl l ↦ inl (ltb-true a.epoch b.epoch l)
      | inr r ↦
          let eq_and = both_left ((a.epoch == b.epoch) && counts_at_most a.counts b.counts) (not (same_counts a.counts b.counts)) r in
          inr (
            eqb-true a.epoch b.epoch (both_left _ _ eq_and),
            both_right (a.epoch == b.epoch) _ eq_and,
            λ e. not_true _ (both_right ((a.epoch == b.epoch) && counts_at_most a.counts b.counts) _ r) (same_counts-refl a.counts b.counts e),
          )
    ]

-- a clock is before another if its epoch is lower, or the same and its counts are at most the other's and differ
pub before_write : (a b : Clock) → BeforeFacts a b → IsTrue (is_before a b)
before_write a b (inl l) = or_left _ _ (lt-ltb a.epoch b.epoch l)
before_write a b (inr r) =
    or_right (nat_lt a.epoch b.epoch) _
    (and_from _ _ (and_from _ _ (eq-eqb a.epoch b.epoch r.0) r.1) (not_from _ (λ s. r.2 (same_counts-is a.counts b.counts s))))

before_facts-trans : (a b c : Clock) → BeforeFacts a b → BeforeFacts b c → BeforeFacts a c
before_facts-trans a b c (inl l) (inl m) = inl (omega (arith, l, m))
before_facts-trans a b c (inl l) (inr m) = inl (let e = m.0 in omega (arith, l, e))
before_facts-trans a b c (inr l) (inl m) = inl (let e = l.0 in omega (arith, m, e))
before_facts-trans a b c (inr l) (inr m) =
    inr (
      l.0 ∙ m.0,
      at_most-trans a.counts b.counts c.counts l.1 m.1,
      λ e. l.2 (at_most-same a.counts b.counts l.1 (subst (λ xs. IsTrue (counts_at_most b.counts xs)) (sym e) m.1)),
    )

-- that a clock is before another is transitive
pub clock_before-trans : (a b c : Clock) → IsTrue (is_before a b) → IsTrue (is_before b c) → IsTrue (is_before a c)
clock_before-trans a b c g h = before_write _ _ (before_facts-trans a b c (before_read _ _ g) (before_read _ _ h))

-- that a stamp is before another is transitive
pub before-trans : (a b c : Stamp) → IsTrue (stamp_before a b) → IsTrue (stamp_before b c) → IsTrue (stamp_before a c)
before-trans a b c g h = clock_before-trans a.clock b.clock c.clock g h

before_facts-strict : (a : Clock) → BeforeFacts a a → ⊥
before_facts-strict a (inl l) = omega (arith, l)
before_facts-strict a (inr r) = r.2 refl

-- no clock is before itself
pub clock_before-strict : (a : Clock) → IsTrue (is_before a a) → ⊥
clock_before-strict a h = before_facts-strict a (before_read _ _ h)

-- no stamp is before itself
pub before-strict : (a : Stamp) → IsTrue (stamp_before a a) → ⊥
before-strict a h = clock_before-strict a.clock h

-- clocks that pass the test of equality are equal
pub same_clock-is : (a b : Clock) → IsTrue (same_clock a b) → a ≡ b
same_clock-is a b h =
    let epoch : a.epoch ≡ b.epoch = eqb-true a.epoch b.epoch (both_left _ _ h) in
    let counts : a.counts ≡ b.counts = same_counts-is _ _ (both_right (a.epoch == b.epoch) _ h) in
    λ i. record { epoch = epoch i; counts = counts i }

-- each clock passes the test of equality with itself
pub same_clock-refl : (a : Clock) → IsTrue (same_clock a a)
same_clock-refl a = and_from _ _ (eq-eqb a.epoch a.epoch refl) (same_counts-refl a.counts a.counts refl)

-- stamps that pass the test of equality are equal
pub same_stamp-is : (a b : Stamp) → IsTrue (same_stamp a b) → a ≡ b
same_stamp-is a b h =
    let home : a.home ≡ b.home = eqb-true a.home b.home (both_left _ _ h) in
    let clock : a.clock ≡ b.clock = same_clock-is _ _ (both_right (a.home == b.home) _ h) in
    λ i. record { home = home i; clock = clock i }

-- each stamp passes the test of equality with itself
pub same_stamp-refl : (a : Stamp) → IsTrue (same_stamp a a)
same_stamp-refl a = and_from _ _ (eq-eqb a.home a.home refl) (same_clock-refl a.clock)

-- what at most says
abbrev pub AtMostFacts : Clock → Clock → Type 0
AtMostFacts a b = (a.epoch < b.epoch) ⊎ ((a.epoch ≡ b.epoch) × IsTrue (counts_at_most a.counts b.counts))

-- a clock that is at most another has a lower epoch, or the same and counts at most the other's
pub at_most_read : (a b : Clock) → IsTrue (is_at_most a b) → AtMostFacts a b
at_most_read a b h =
    elim (or_cases (is_before a b) _ h) [
      | inl before ↦ elim (before_read a b before) [ inl less ↦ inl less | inr facts ↦ inr (facts.0, facts.1) ]
      | inr same ↦ let e : a ≡ b = same_clock-is a b same in inr (ap (λ (c : Clock). c.epoch) e, subst (λ (c : Clock). IsTrue (counts_at_most a.counts c.counts)) e (at_most-refl a.counts))
    ]

-- a clock of a lower epoch, or of the same and with counts at most the other's, is at most the other
pub at_most_write : (a b : Clock) → AtMostFacts a b → IsTrue (is_at_most a b)
at_most_write a b (inl less) = or_left _ _ (before_write a b (inl less))
at_most_write a b (inr (epoch, each)) =
    elim (cases_Bool (same_counts a.counts b.counts)) [
      | inl same ↦ or_right (is_before a b) _ (and_from _ _ (eq-eqb a.epoch b.epoch epoch) same)
      | inr differ ↦ or_left _ _ (before_write a b (inr (epoch, each, λ e. both_ways _ differ (same_counts-refl a.counts b.counts e))))
    ]

-- each clock is at most itself
pub at_most_clock-refl : (a : Clock) → IsTrue (is_at_most a a)
at_most_clock-refl a = or_right (is_before a a) _ (same_clock-refl a)

-- a clock that is before another is before each one that this is at most
pub before-at_most : (a b c : Clock) → IsTrue (is_before a b) → IsTrue (is_at_most b c) → IsTrue (is_before a c)
before-at_most a b c g h =
    elim (or_cases (is_before b c) _ h) [
      | inl before ↦ clock_before-trans a b c g before
      | inr same ↦ subst (λ x. IsTrue (is_before a x)) (same_clock-is b c same) g
    ]

-- a clock that is at most another is before each one that this is before
pub at_most-before : (a b c : Clock) → IsTrue (is_at_most a b) → IsTrue (is_before b c) → IsTrue (is_before a c)
at_most-before a b c g h =
    elim (or_cases (is_before a b) _ g) [
      | inl before ↦ clock_before-trans a b c before h
      | inr same ↦ subst (λ x. IsTrue (is_before x c)) (sym (same_clock-is a b same)) h
    ]

-- that a clock is at most another is transitive
pub clock_at_most-trans : (a b c : Clock) → IsTrue (is_at_most a b) → IsTrue (is_at_most b c) → IsTrue (is_at_most a c)
clock_at_most-trans a b c g h =
    elim (or_cases (is_before b c) _ h) [
      | inl before ↦ or_left _ _ (at_most-before a b c g before)
      | inr same ↦ subst (λ x. IsTrue (is_at_most a x)) (same_clock-is b c same) g
    ]

-- clocks that are at most each other are equal
pub at_most-antisym : (a b : Clock) → IsTrue (is_at_most a b) → IsTrue (is_at_most b a) → a ≡ b
at_most-antisym a b g h =
    elim (or_cases (is_before a b) _ g) [
      | inl before ↦ absurd (clock_before-strict a (before-at_most a b a before h))
      | inr same ↦ same_clock-is a b same
    ]

-- equal clocks are unordered
pub clocks_unordered-equal : (a b : Clock) → a ≡ b → IsTrue (clocks_unordered a b)
clocks_unordered-equal a b e =
    subst (λ x. IsTrue (clocks_unordered a x)) e (and_from _ _ (not_from _ (clock_before-strict a)) (not_from _ (clock_before-strict a)))
