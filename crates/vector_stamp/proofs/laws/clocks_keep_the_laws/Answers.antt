use Rattle.std.proofs.Common.{◌≡◌, ◌⊎◌, ℕ, ◌+◌, ◌<◌, ◌≤◌, max, IsTrue, inl, inr, ap, ◌∙◌, arith}
use Rattle.std.proofs.lemmas.Bool.{or_left, cases_order}
use Rattle.std.proofs.lemmas.List.{length-set}
use Rattle.vector_stamp.specs.declared.clock.Clock.{Clock}
use Rattle.vector_stamp.specs.Order.{count_of, is_at_most}
use Rattle.vector_stamp.specs.Clocks.{clock_after_hearing}
use Rattle.vector_stamp.proofs.Counts.{none-counted, at_most-at}
use Rattle.vector_stamp.proofs.Orders.{at_most_clock-refl, clock_at_most-trans, before-at_most, at_most-before, before_write, at_most_read}
use Rattle.vector_stamp.proofs.Ticks.{tick-before, own-set}
use Rattle.vector_stamp.proofs.Hearing.{hearing-lower, hearing-own, hearing-higher, hearing-eight, own_at_most-hearing, own_count-hearing, own_count-higher, own_before-stamp, heard_before-stamp}
use Rattle.vector_stamp.proofs.MeetsOfLists.{meet_with-eight, meet_with-below}
use Rattle.vector_stamp.proofs.NonePast.{tick-none, hearing-none, meet_with-none}
use Rattle.vector_stamp.proofs.laws.clocks_keep_the_laws.Goals as goal

each : (a b : Clock) → IsTrue (is_at_most a b) → (a.epoch < b.epoch) ⊎ ((a.epoch ≡ b.epoch) × ((gate : ℕ) → count_of gate a ≤ count_of gate b))
each a b h =
    elim (at_most_read a b h) [
      | inl less ↦ inl less
      | inr (same, counts) ↦ inr (same, λ gate. at_most-at a.counts b.counts gate counts)
    ]

heard_epoch : (home : ℕ) (clock heard : Clock) → (clock_after_hearing home clock heard).epoch ≡ max clock.epoch heard.epoch
heard_epoch home clock heard =
    elim (cases_order heard.epoch clock.epoch) [
      | inl same ↦ let e = ap (λ (c : Clock). c.epoch) (hearing-own home clock heard same) in omega arith
      | inr (inl lower) ↦ let e = ap (λ (c : Clock). c.epoch) (hearing-lower home clock heard lower) in omega arith
      | inr (inr higher) ↦ let e = ap (λ (c : Clock). c.epoch) (hearing-higher home clock heard higher) in omega arith
    ]

pub returns : goal.returns
returns c =
    record {
      at_most_itself = at_most_clock-refl;
      at_most_at_most = clock_at_most-trans;
      before_at_most = before-at_most;
      at_most_before = at_most-before;
      before_is_at_most = λ a b before. or_left _ _ before;
      later_epoch = λ a b less. before_write a b (inl less);
      at_most_each = each;
      tick_is_later = tick-before;
      tick_counts = λ home clock below eight. own-set clock.counts home (count_of home clock + 1) below eight;
      tick_eight = λ home clock eight. length-set clock.counts home (count_of home clock + 1) ∙ eight;
      hearing_epoch = heard_epoch;
      hearing_lower = hearing-lower;
      hearing_eight = hearing-eight;
      hearing_is_later = own_at_most-hearing;
      hearing_own = own_count-hearing;
      hearing_higher = own_count-higher;
      then_rises = own_before-stamp;
      then_after = heard_before-stamp;
      meet_below_each = meet_with-below;
      meet_eight = meet_with-eight;
      first_none_past = λ gates epoch gate past. none-counted gate;
      tick_none_past = tick-none;
      hearing_none_past = hearing-none;
      meet_none_past = meet_with-none;
    }
