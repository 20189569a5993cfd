-- The clock of a gatekeeper never goes back, and its stamps rise.
-- Used by `messages_come_before`, `stamps_rise`, Channels, LowMarks, Small and Ticks.
use Rattle.std.proofs.Common.{◌≡◌, ℕ, ◌<◌, ◌≤◌, List, [], ◌∷◌, ◌++◌, Contains, IsTrue, Option, None, Some, inl, inr, refl, sym, ap, subst, ◌∙◌, arith}
use Rattle.std.specs.Option.{ForSome}
use Rattle.std.proofs.lemmas.Bool.{or_left, cases_order}
use Rattle.std.proofs.lemmas.List.{append-nil, length-set}
use Rattle.std.proofs.lemmas.List.Elements.{Contains-append_cases}
use Rattle.vector_stamp.specs.declared.clock.Clock.{Clock}
use Rattle.vector_stamp.specs.declared.clock.Stamp.{Stamp}
use Rattle.vector_stamp.specs.Order.{count_of, HasEightCounts, is_before, is_at_most, stamp_before}
use Rattle.vector_stamp.specs.ClockLaws.{ClockLaws}
use Rattle.vector_stamp.specs.Clocks.{first_clock, clock_after_hearing}
use Rattle.weave_entries.specs.declared.gate_log.GateEntry.{GateEntry}
use Rattle.weave_entries.specs.declared.gate_log.GateDeed.{GateDeed}
use Rattle.weave_entries.specs.declared.gate_log.GateDeed.TheVariants.{BeganTx, BeganProgram, Sent, Nop, Heard, Raised, Finished}
use Rattle.weave_entries.specs.GateReplay.{clock_after_last, begun_stamp, next_stamp, clock_after, clock_of, stamps_by, stamps_of}
use Rattle.weave_entries.specs.GateRules.{IsBegunAt, FitsAs, IsGateLog, StampsRise}
use Rattle.weave_data.proofs.Members.{only}
use Rattle.weave_data.proofs.Ordered.{pairs_push}
use Rattle.weave_entries.proofs.Replay.{clock-push, stamps-push, by_entries}

module _ (laws : ClockLaws) where
  -- a clock before another one is at most that
  pub before_is_at_most : (a b : Clock) → IsTrue (is_before a b) → IsTrue (is_at_most a b)
  before_is_at_most a b before = or_left _ _ before

  -- What is heard before a tick

  module _ (home : ℕ) (clock : Clock) (below : home < 8) (eight : HasEightCounts clock) where
    -- the clock has eight counts after the last stamp of a session, if any, was heard
    pub last-eight : (last : Option Stamp) → ForSome last (λ heard. HasEightCounts heard.clock) → HasEightCounts (clock_after_last home clock last)
    last-eight None heard = eight
    last-eight (Some stamp) heard = laws.hearing_eight home clock stamp.clock below eight (heard stamp refl)

    -- the stamp of a begin has eight counts
    pub begun-eight : (last : Option Stamp) → ForSome last (λ heard. HasEightCounts heard.clock) → HasEightCounts ((begun_stamp home clock last).clock)
    begun-eight last heard = length-set _ _ _ ∙ last-eight last heard

    -- the clock is before the stamp that is begun at it
    pub begun-before : (last : Option Stamp) → ForSome last (λ heard. HasEightCounts heard.clock) → IsTrue (is_before clock ((begun_stamp home clock last).clock))
    begun-before None heard = laws.tick_is_later home clock below eight
    begun-before (Some stamp) heard = laws.then_rises home clock stamp.clock below eight (heard stamp refl)

    -- hearing never raises the own count
    pub own-hearing : (heard : Clock) → HasEightCounts heard → count_of home (clock_after_hearing home clock heard) ≤ count_of home clock
    own-hearing heard eight_heard =
        elim (cases_order heard.epoch clock.epoch) [
          | inl same ↦ let e = laws.hearing_own home clock heard below eight eight_heard same in omega arith
          | inr (inl lower) ↦ let e = ap (λ (c : Clock). count_of home c) (laws.hearing_lower home clock heard lower) in omega arith
          | inr (inr higher) ↦ let e = laws.hearing_higher home clock heard below eight eight_heard higher in omega arith
        ]

    -- nor does hearing the last stamp of a session, if there is one
    pub own-last : (last : Option Stamp) → ForSome last (λ heard. HasEightCounts heard.clock) → count_of home (clock_after_last home clock last) ≤ count_of home clock
    own-last None heard = omega arith
    own-last (Some stamp) heard = own-hearing stamp.clock (heard stamp refl)

  -- Along a log

  -- the clock has eight counts and is at least each stamp so far, and these rise
  pub record RisesTo (clock : Clock) (stamps : List Stamp) : Type 0 where
    pub eight : HasEightCounts clock
    pub rise : StampsRise stamps
    pub under : (stamp : Stamp) → Contains stamps stamp → IsTrue (is_at_most stamp.clock clock)

  -- the clock goes on without an event
  goes_on : (clock next : Clock) (stamps : List Stamp) → IsTrue (is_at_most clock next) → HasEightCounts next → RisesTo clock stamps → RisesTo next (stamps ++ [])
  goes_on clock next stamps at_most eight so_far =
      rw append-nil (record {
        eight = eight;
        rise = so_far.rise;
        under = λ stamp has. laws.at_most_at_most stamp.clock clock next (so_far.under stamp has) at_most;
      })

  -- an event comes after all before it
  ticks_on : (clock : Clock) (stamp : Stamp) (stamps : List Stamp) → IsTrue (is_before clock stamp.clock) → HasEightCounts stamp.clock → RisesTo clock stamps → RisesTo stamp.clock (stamps ++ stamp ∷ [])
  ticks_on clock stamp stamps before eight so_far =
      record {
        eight = eight;
        rise = pairs_push (λ (a b : Stamp). IsTrue (stamp_before a b)) stamps stamp so_far.rise (λ earlier has. laws.at_most_before earlier.clock clock stamp.clock (so_far.under earlier has) before);
        under = λ one has. elim (Contains-append_cases stamps (stamp ∷ []) one has) [
          | inl earlier ↦ laws.at_most_at_most one.clock clock stamp.clock (so_far.under one earlier) (before_is_at_most clock stamp.clock before)
          | inr last ↦ subst (λ (s : Stamp). IsTrue (is_at_most s.clock stamp.clock)) (only stamp one last) (laws.at_most_itself stamp.clock)
        ];
      }

  begins_on : (home : ℕ) (clock : Clock) (stamp : Stamp) (stamps : List Stamp) → home < 8 → IsBegunAt home clock stamp → RisesTo clock stamps → RisesTo stamp.clock (stamps ++ stamp ∷ [])
  begins_on home clock stamp stamps below begun so_far =
      let e : begun_stamp home clock begun.last ≡ stamp = sym begun.is in
      subst (λ (s : Stamp). RisesTo s.clock (stamps ++ s ∷ [])) e
      (ticks_on clock (begun_stamp home clock begun.last) stamps (begun-before home clock below so_far.eight begun.last begun.eight) (begun-eight home clock below so_far.eight begun.last begun.eight) so_far)

  -- each deed that is right goes on so
  step : (home shards : ℕ) (log : List GateEntry) (author : ℕ) (deed : GateDeed) (clock : Clock) (stamps : List Stamp) → home < 8 → clock ≡ clock_of home log → FitsAs home shards log author deed → RisesTo clock stamps → RisesTo (clock_after home clock deed) (stamps ++ stamps_by deed)
  step home shards log author (BeganTx request stamp) clock stamps below is fits so_far = begins_on home clock stamp stamps below (subst (λ (c : Clock). IsBegunAt home c stamp) (sym is) fits.begun) so_far
  step home shards log author (BeganProgram request stamp) clock stamps below is fits so_far = begins_on home clock stamp stamps below (subst (λ (c : Clock). IsBegunAt home c stamp) (sym is) fits) so_far
  step home shards log author (Sent request messages) clock stamps below is fits so_far = goes_on clock clock stamps (laws.at_most_itself clock) so_far.eight so_far
  step home shards log author (Nop shard number stamp low) clock stamps below is fits so_far =
      let e : next_stamp home clock ≡ stamp = ap (λ (c : Clock). next_stamp home c) is ∙ sym fits.stamp_is in
      subst (λ (s : Stamp). RisesTo s.clock (stamps ++ s ∷ [])) e
      (ticks_on clock (next_stamp home clock) stamps (laws.tick_is_later home clock below so_far.eight) (length-set _ _ _ ∙ so_far.eight) so_far)
  step home shards log author (Heard heard) clock stamps below is fits so_far =
      goes_on clock (clock_after_hearing home clock heard) stamps (laws.hearing_is_later home clock heard below so_far.eight fits) (laws.hearing_eight home clock heard below so_far.eight fits) so_far
  step home shards log author (Raised epoch) clock stamps below is fits so_far =
      let less : clock.epoch < epoch = subst (λ (c : Clock). c.epoch < epoch) (sym is) fits in
      goes_on clock (first_clock epoch) stamps (before_is_at_most clock (first_clock epoch) (laws.later_epoch clock (first_clock epoch) less)) refl so_far
  step home shards log author (Finished request) clock stamps below is fits so_far = goes_on clock clock stamps (laws.at_most_itself clock) so_far.eight so_far

  -- the clock of a gatekeeper's log has eight counts and is at least each of its stamps, and these rise
  pub rises : (home shards : ℕ) → home < 8 → (log : List GateEntry) → IsGateLog home shards log → RisesTo (clock_of home log) (stamps_of log)
  rises home shards below =
      by_entries home shards (λ log. RisesTo (clock_of home log) (stamps_of log))
      (record { eight = refl; rise = λ i j d less within. absurd (omega arith); under = λ stamp has. absurd (omega (arith, has.1)) })
      (λ log entry right fits so_far.
      subst (λ (c : Clock). RisesTo c (stamps_of (log ++ entry ∷ []))) (sym (clock-push log entry home))
      (subst (λ (s : List Stamp). RisesTo (clock_after home (clock_of home log) entry.deed) s) (sym (stamps-push log entry))
      (step home shards log entry.author entry.deed (clock_of home log) (stamps_of log) below refl fits so_far)))
