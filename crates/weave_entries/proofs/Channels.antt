-- The channels of a gatekeeper: their numbers run from 1, and their stamps rise.
-- Used by `channels_rise`, `messages_come_before`, LowMarks and crate weave_account.
use Rattle.std.proofs.Common.{◌≡◌, ℕ, suc, ◌+◌, ◌<◌, nat_eq, List, [], ◌∷◌, ◌++◌, length, map, Contains, IsTrue, Option, None, Some, inl, inr, refl, sym, ap, subst, ◌∙◌, arith}
use Rattle.std.specs.List.{range_with_len}
use Rattle.std.specs.Option.{ForSome}
use Rattle.std.proofs.lemmas.Bool.{cases_Bool, eqb-true}
use Rattle.std.proofs.lemmas.List.{append-nil, length-append, map-append}
use Rattle.std.proofs.lemmas.List.Elements.{Contains-append_cases}
use Rattle.vector_stamp.specs.declared.clock.Clock.{Clock}
use Rattle.vector_stamp.specs.declared.clock.Stamp.{Stamp}
use Rattle.vector_stamp.specs.Order.{HasEightCounts, is_before, is_at_most, stamp_before}
use Rattle.vector_stamp.specs.ClockLaws.{ClockLaws}
use Rattle.vector_stamp.specs.Clocks.{first_clock, clock_after_hearing}
use Rattle.graph_ops.specs.declared.op.Op.{Op}
use Rattle.weave_entries.specs.declared.message.Message.{Message}
use Rattle.weave_entries.specs.declared.message.Addressed.{Addressed}
use Rattle.weave_entries.specs.declared.gate_log.GateEntry.{GateEntry}
use Rattle.weave_entries.specs.declared.gate_log.GateDeed.{GateDeed}
use Rattle.weave_entries.specs.declared.gate_log.GateDeed.TheVariants.{BeganTx, BeganProgram, Sent, Nop, Heard, Raised, Finished}
use Rattle.weave_entries.specs.GateReplay.{BegunRequest, next_stamp, nop_message, clock_after, clock_of, flight_after, flight_of, messages_by, to_shard, addressed_to, next_number}
use Rattle.weave_entries.specs.GateRules.{IsBegunAt, BeginsTx, Sends, SendsNop, FitsAs, IsGateLog, StampsRise, IsChannel}
use Rattle.weave_entries.specs.Sending.{message_to}
use Rattle.weave_data.proofs.Members.{only}
use Rattle.weave_data.proofs.Ordered.{pairs_push}
use Rattle.weave_data.proofs.Ranges.{range_more}
use Rattle.weave_entries.proofs.Replay.{clock-push, flight-push, addressed-push, by_entries}
use Rattle.weave_entries.proofs.Rising.{before_is_at_most, begun-before, rises}
use Rattle.weave_entries.proofs.Picked.{OneAtMost, NoMessage, OneMessage, one_at_most}

-- the stamps of the messages sent
abbrev pub stamps_in : List Addressed → List Stamp
stamps_in sent = map (λ (message : Message). message.stamp) (map (λ (addressed : Addressed). addressed.message) sent)

module _ (laws : ClockLaws) where
  -- a stamp that was sent is before that of the transaction in flight; if none is, it is at most the clock
  abbrev pub StandsBefore : Clock → Option BegunRequest → Stamp → Type 0
  StandsBefore clock None stamp = IsTrue (is_at_most stamp.clock clock)
  StandsBefore clock (Some flight) stamp = IsTrue (stamp_before stamp flight.stamp)

  -- what holds of a channel along a log
  pub record RisesBelow (clock : Clock) (flight : Option BegunRequest) (sent : List Addressed) : Type 0 where
    pub numbers : map (λ (addressed : Addressed). addressed.number) sent ≡ range_with_len 1 (length (map (λ (addressed : Addressed). addressed.message) sent))
    pub rise : StampsRise (stamps_in sent)
    pub under : (stamp : Stamp) → Contains (stamps_in sent) stamp → StandsBefore clock flight stamp
    pub flying : ForSome flight (λ begun. IsTrue (is_at_most begun.stamp.clock clock))

  module _ (clock next : Clock) (flight after : Option BegunRequest) (sent : List Addressed)
      (goes : (stamp : Stamp) → StandsBefore clock flight stamp → StandsBefore next after stamp)
      (flying : ForSome after (λ begun. IsTrue (is_at_most begun.stamp.clock next)))
      (so_far : RisesBelow clock flight sent) where
    -- nothing is sent
    still : RisesBelow next after (sent ++ [])
    still =
        rw append-nil (record {
          numbers = so_far.numbers;
          rise = so_far.rise;
          under = λ stamp has. goes stamp (so_far.under stamp has);
          flying = flying;
        })

    -- one message is sent, with the next number and a later stamp
    sends : (one : Addressed) → one.number ≡ length (map (λ (addressed : Addressed). addressed.message) sent) + 1 → ((stamp : Stamp) → StandsBefore clock flight stamp → IsTrue (stamp_before stamp one.message.stamp)) → StandsBefore next after one.message.stamp → RisesBelow next after (sent ++ one ∷ [])
    sends one number_is later here =
        let messages : List Message = map (λ (addressed : Addressed). addressed.message) sent in
        let stamps_are : stamps_in (sent ++ one ∷ []) ≡ stamps_in sent ++ one.message.stamp ∷ [] = ap (map (λ (message : Message). message.stamp)) (map-append (λ (addressed : Addressed). addressed.message) sent (one ∷ [])) ∙ map-append (λ (message : Message). message.stamp) messages (one.message ∷ []) in
        let longer : length (map (λ (addressed : Addressed). addressed.message) (sent ++ one ∷ [])) ≡ suc (length messages) = ap length (map-append (λ (addressed : Addressed). addressed.message) sent (one ∷ [])) ∙ length-append messages (one.message ∷ []) ∙ omega arith in
        let next_is : one.number ≡ 1 + length messages = omega arith in
        record {
          numbers =
              map-append (λ (addressed : Addressed). addressed.number) sent (one ∷ [])
              ∙ ap (λ ns. ns ++ one.number ∷ []) so_far.numbers
              ∙ ap (λ n. range_with_len 1 (length messages) ++ n ∷ []) next_is
              ∙ sym (range_more 1 (length messages))
              ∙ sym (ap (range_with_len 1) longer);
          rise = subst StampsRise (sym stamps_are) (pairs_push (λ (a b : Stamp). IsTrue (stamp_before a b)) (stamps_in sent) one.message.stamp so_far.rise (λ stamp has. later stamp (so_far.under stamp has)));
          under = λ stamp has. elim (Contains-append_cases (stamps_in sent) (one.message.stamp ∷ []) stamp (subst (λ (stamps : List Stamp). Contains stamps stamp) stamps_are has)) [
            | inl earlier ↦ goes stamp (so_far.under stamp earlier)
            | inr last ↦ subst (λ (s : Stamp). StandsBefore next after s) (only one.message.stamp stamp last) here
          ];
          flying = flying;
        }

  -- the clock grows, and the flight stays
  grows : (clock next : Clock) (flight : Option BegunRequest) (sent : List Addressed) → IsTrue (is_at_most clock next) → RisesBelow clock flight sent → RisesBelow next flight (sent ++ [])
  grows clock next None sent at_most so_far = still clock next None None sent (λ stamp stands. laws.at_most_at_most stamp.clock clock next stands at_most) (λ begun is. absurd (cc)) so_far
  grows clock next (Some begun) sent at_most so_far = still clock next (Some begun) (Some begun) sent (λ stamp stands. stands) (λ one is. laws.at_most_at_most one.stamp.clock clock next (so_far.flying one is) at_most) so_far

  -- a begin leaves a later clock
  pub begun_later : (home : ℕ) (clock : Clock) (stamp : Stamp) → home < 8 → HasEightCounts clock → IsBegunAt home clock stamp → IsTrue (is_before clock stamp.clock)
  begun_later home clock stamp below eight begun =
      subst (λ (s : Stamp). IsTrue (is_before clock s.clock)) (sym begun.is) (begun-before laws home clock below eight begun.last begun.eight)

  module _ (home shards shard : ℕ) (below : home < 8) (log : List GateEntry) (author : ℕ) where
    -- the flight is sent, with one message to the shard or none
    sent_on : (begun : BegunRequest) (ops : List Op) (clock : Clock) (sent : List Addressed) → ((s : Stamp) → StandsBefore clock (Some begun) s → StandsBefore clock None s) → ForSome None (λ (one : BegunRequest). IsTrue (is_at_most one.stamp.clock clock)) → RisesBelow clock (Some begun) sent → IsTrue (is_at_most begun.stamp.clock clock) → sent ≡ addressed_to shard log → (some : List Addressed) → OneAtMost shards log begun ops shard some → RisesBelow clock None (sent ++ some)
    sent_on begun ops clock sent goes none before at_most is_sent some NoMessage = still clock clock (Some begun) None sent goes none before
    sent_on begun ops clock sent goes none before at_most is_sent some (OneMessage counts) =
        let number_is : next_number shard log ≡ length (map (λ (addressed : Addressed). addressed.message) sent) + 1 = ap (λ (all : List Addressed). length (map (λ (addressed : Addressed). addressed.message) all) + 1) (sym is_sent) in
        sends clock clock (Some begun) None sent goes none before (message_to shards log begun ops counts shard) number_is (λ s stands. stands) at_most

    module _ (clock : Clock) (flight : Option BegunRequest) (sent : List Addressed) (eight : HasEightCounts clock)
        (is_clock : clock ≡ clock_of home log) (is_flight : flight ≡ flight_of log) (is_sent : sent ≡ addressed_to shard log)
        (so_far : RisesBelow clock flight sent) where
      -- the channel after this deed
      abbrev RisesAfter : GateDeed → Type 0
      RisesAfter deed = RisesBelow (clock_after home clock deed) (flight_after flight author deed) (sent ++ to_shard shard (messages_by deed))

      -- a begin leaves a later clock here
      later_by : (stamp : Stamp) → IsBegunAt home (clock_of home log) stamp → IsTrue (is_before clock stamp.clock)
      later_by stamp begun = begun_later home clock stamp below eight (subst (λ (c : Clock). IsBegunAt home c stamp) (sym is_clock) begun)

      -- the next number of the channel
      next_is : next_number shard log ≡ length (map (λ (addressed : Addressed). addressed.message) sent) + 1
      next_is = ap (λ (all : List Addressed). length (map (λ (addressed : Addressed). addressed.message) all) + 1) (sym is_sent)

      -- while none is in flight
      alone_so_far : flight_of log ≡ None → RisesBelow clock None sent
      alone_so_far alone = subst (λ (f : Option BegunRequest). RisesBelow clock f sent) (is_flight ∙ alone) so_far

      -- a transaction is begun: what was sent is before its stamp
      tx_begins : (request : ℕ) (stamp : Stamp) → BeginsTx home log stamp → RisesAfter (BeganTx request stamp)
      tx_begins request stamp begins =
          still clock stamp.clock None (Some (record { author = author; request = request; stamp = stamp })) sent
          (λ s stands. laws.at_most_before s.clock clock stamp.clock stands (later_by stamp begins.begun))
          (λ one is. let e : stamp ≡ one.stamp = cc in subst (λ (s : Stamp). IsTrue (is_at_most s.clock stamp.clock)) e (laws.at_most_itself stamp.clock))
          (alone_so_far begins.alone)

      -- a program is begun: the clock alone grows
      program_begins : (request : ℕ) (stamp : Stamp) → IsBegunAt home (clock_of home log) stamp → RisesAfter (BeganProgram request stamp)
      program_begins request stamp begun = grows clock stamp.clock flight sent (before_is_at_most laws clock stamp.clock (later_by stamp begun)) so_far

      -- the transaction in flight is sent: its message, if the shard gets one, is the last so far
      is_sent_off : (request : ℕ) (messages : List Addressed) → Sends shards log author request messages → RisesAfter (Sent request messages)
      is_sent_off request messages sends_it =
          let begun : BegunRequest = record { author = author; request = request; stamp = sends_it.stamp } in
          let before : RisesBelow clock (Some begun) sent = subst (λ (f : Option BegunRequest). RisesBelow clock f sent) (is_flight ∙ sends_it.flight) so_far in
          let at_most : IsTrue (is_at_most sends_it.stamp.clock clock) = before.flying begun refl in
          subst (λ (ms : List Addressed). RisesBelow clock None (sent ++ to_shard shard ms)) (sym sends_it.messages_are)
          (sent_on begun sends_it.ops clock sent
          (λ s stands. before_is_at_most laws s.clock clock (laws.before_at_most s.clock sends_it.stamp.clock clock stands at_most))
          (λ one is. absurd (cc)) before at_most is_sent _ (one_at_most shards log begun sends_it.ops shard sends_it.verdict))

      -- an empty message is sent, to this shard or to another: its stamp is the next
      nop_goes : (to number : ℕ) (stamp : Stamp) (low : Clock) → SendsNop home shards log to number stamp low → RisesAfter (Nop to number stamp low)
      nop_goes to number stamp low nop =
          let stamp_is : stamp ≡ next_stamp home clock = nop.stamp_is ∙ ap (λ (c : Clock). next_stamp home c) (sym is_clock) in
          let later : IsTrue (is_before clock stamp.clock) = subst (λ (s : Stamp). IsTrue (is_before clock s.clock)) (sym stamp_is) (laws.tick_is_later home clock below eight) in
          let goes : (s : Stamp) → StandsBefore clock None s → StandsBefore stamp.clock None s = λ s stands. laws.at_most_at_most s.clock clock stamp.clock stands (before_is_at_most laws clock stamp.clock later) in
          let none : ForSome None (λ (one : BegunRequest). IsTrue (is_at_most one.stamp.clock stamp.clock)) = λ one is. absurd (cc) in
          let one : Addressed = record { shard = to; number = number; message = nop_message stamp low } in
          let before = alone_so_far nop.alone in
          subst (λ (f : Option BegunRequest). RisesBelow stamp.clock f (sent ++ to_shard shard (one ∷ []))) (sym (is_flight ∙ nop.alone))
          (elim (cases_Bool (nat_eq to shard)) [
            | inl here ↦
                let number_is = nop.number_is ∙ ap (λ n. next_number n log) (eqb-true to shard here) ∙ next_is in
                rw here (sends clock stamp.clock None None sent goes none before one number_is (λ s stands. laws.at_most_before s.clock clock stamp.clock stands later) (laws.at_most_itself stamp.clock))
            | inr other ↦ rw other (still clock stamp.clock None None sent goes none before)
          ])

      -- an epoch is raised: its first clock is later
      epoch_rises : (epoch : ℕ) → (clock_of home log).epoch < epoch → RisesAfter (Raised epoch)
      epoch_rises epoch above =
          let less : clock.epoch < epoch = subst (λ (c : Clock). c.epoch < epoch) (sym is_clock) above in
          grows clock (first_clock epoch) flight sent (before_is_at_most laws clock (first_clock epoch) (laws.later_epoch clock (first_clock epoch) less)) so_far

      -- each deed that is right goes on so
      step : (deed : GateDeed) → FitsAs home shards log author deed → RisesAfter deed
      step (BeganTx request stamp) fits = tx_begins request stamp fits
      step (BeganProgram request stamp) fits = program_begins request stamp fits
      step (Sent request messages) fits = is_sent_off request messages fits
      step (Nop to number stamp low) fits = nop_goes to number stamp low fits
      step (Heard heard) fits = grows clock (clock_after_hearing home clock heard) flight sent (laws.hearing_is_later home clock heard below eight fits) so_far
      step (Raised epoch) fits = epoch_rises epoch fits
      step (Finished request) fits = grows clock clock flight sent (laws.at_most_itself clock) so_far

  -- this holds of each channel at the end of a gatekeeper's log
  pub channels_rise : (home shards shard : ℕ) → home < 8 → (log : List GateEntry) → IsGateLog home shards log → RisesBelow (clock_of home log) (flight_of log) (addressed_to shard log)
  channels_rise home shards shard below =
      by_entries home shards (λ log. RisesBelow (clock_of home log) (flight_of log) (addressed_to shard log))
      (record { numbers = refl; rise = λ i j d less within. absurd (omega arith); under = λ stamp has. absurd (omega (arith, has.1)); flying = λ begun is. absurd (cc) })
      (λ log entry right fits so_far.
      let stepped = step home shards shard below log entry.author (clock_of home log) (flight_of log) (addressed_to shard log) ((rises laws home shards below log right).eight) refl refl refl so_far entry.deed fits in
      subst (λ (c : Clock). RisesBelow c (flight_of (log ++ entry ∷ [])) (addressed_to shard (log ++ entry ∷ []))) (sym (clock-push log entry home))
      (subst (λ (f : Option BegunRequest). RisesBelow (clock_after home (clock_of home log) entry.deed) f (addressed_to shard (log ++ entry ∷ []))) (sym (flight-push log entry))
      (subst (λ (s : List Addressed). RisesBelow (clock_after home (clock_of home log) entry.deed) (flight_after (flight_of log) entry.author entry.deed) s) (sym (addressed-push log entry shard)) stepped)))

  -- in a gatekeeper's log the numbers of a channel run from 1, and its stamps rise
  pub is_channel : (home shards shard : ℕ) → home < 8 → (log : List GateEntry) → IsGateLog home shards log → IsChannel shard log
  is_channel home shards shard below log right =
      let facts = channels_rise home shards shard below log right in
      record { numbers = facts.numbers; stamps = facts.rise }
