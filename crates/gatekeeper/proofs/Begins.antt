-- A request is begun at a gatekeeper whose fields are what the replay of its log gives.
-- Used by `begin_program`, `begin_tx`, `fetch`, `nop` and Messages.
use Rattle.std.proofs.Common.{◌≡◌, ℕ, ◌^◌, ◌-◌, ◌<◌, ◌≤◌, false, nat_eq, List, [], length, slice_get, is_some, IsTrue, Option, None, Some, inl, inr, refl, sym, ap, subst, ◌∙◌, arith}
use Rattle.std.specs.Option.{ForSome, option_map, option_and_then}
use Rattle.vector_stamp.specs.declared.clock.Clock.{Clock}
use Rattle.vector_stamp.specs.declared.clock.Stamp.{Stamp}
use Rattle.vector_stamp.specs.Order.{count_of, HasEightCounts, is_before, stamp_before}
use Rattle.vector_stamp.specs.Clocks.{clock_after_tick, clock_after_hearing, counts_no_more}
use Rattle.shard_queue.specs.Outbox.{Channel, sent_as}
use Rattle.std.proofs.lemmas.Bool.{cases_Bool}
use Rattle.weave_entries.specs.declared.message.Message.{Message}
use Rattle.weave_entries.specs.declared.gate_log.GateEntry.{GateEntry}
use Rattle.weave_entries.specs.GateReplay.{BegunRequest, begun_stamp, clock_of, channel_of}
use Rattle.weave_entries.specs.GateRules.{IsBegunAt, IsGateLog}
use Rattle.gatekeeper.specs.declared.flight.Flight.{Flight}
use Rattle.gatekeeper.specs.Opened.{as_begun}
use Rattle.gatekeeper.specs.declared.places.Place.{Place}
use Rattle.gatekeeper.specs.Places.{message_at}
use Rattle.gatekeeper.proofs.Leading.{lead-found}
use Rattle.gatekeeper.specs.Gates.{GateView, IsGateReplay}

-- the laws on logs that are premises here

-- the law `counts_are_few`: a gatekeeper's own count is at most the length of its log
abbrev pub OwnIsFew : Type 0
OwnIsFew = (home shards : ℕ) (log : List GateEntry) → home < 8 → IsGateLog home shards log → count_of home (clock_of home log) ≤ length log

-- the law `stamps_rise`: the clock of a gatekeeper's log has eight counts
abbrev pub HasEight : Type 0
HasEight = (home shards : ℕ) (log : List GateEntry) → home < 8 → IsGateLog home shards log → HasEightCounts (clock_of home log)

-- `hearing_brings_order`: a clock heard, with no greater count of the hearer, is before that after the next tick
abbrev pub HeardIsBefore : Type 0
HeardIsBefore = (home : ℕ) (clock heard : Clock) → home < 8 → HasEightCounts clock → HasEightCounts heard → IsTrue (counts_no_more home clock heard) → IsTrue (is_before heard (clock_after_tick home (clock_after_hearing home clock heard)))

-- the law `channels_rise`: the channel to a shard that isn't there is empty
abbrev pub SendsNoneBeyond : Type 0
SendsNoneBeyond = (home shards shard : ℕ) (log : List GateEntry) → IsGateLog home shards log → shards ≤ shard → channel_of shard log ≡ []

-- if the field is empty no transaction is in flight
pub none_flies : (flight : Option Flight) (flies : Option BegunRequest) → option_map as_begun flight ≡ flies → is_some flight ≡ false → flies ≡ None
none_flies None flies is none = sym is
none_flies (Some one) flies is none = absurd (cc)

module _ (home shards : ℕ) (clock : Clock) (flight : Option Flight) (running : List ((ℕ × ℕ) × Clock)) (channels : List (Channel Place)) (nops : List Message) (log : List GateEntry) (kept : IsGateReplay home shards clock flight running channels nops log) where
  -- there is room for one more event
  pub own_fits : OwnIsFew → length log < 2 ^ 63 → count_of home clock < 2 ^ 64 - 1
  own_fits own few =
      let small = own home shards log kept.home_is kept.rules in
      let e : count_of home clock ≡ count_of home (clock_of home log) = ap (λ (c : Clock). count_of home c) kept.clock_is in
      omega arith

  eight_kept : HasEight → HasEightCounts clock
  eight_kept eight = subst HasEightCounts (sym kept.clock_is) (eight home shards log kept.home_is kept.rules)

  -- a stamp begun at the gatekeeper's clock is begun at its log's, if what was heard last, if any, has eight counts
  pub begun_at : (last : Option Stamp) (stamp : Stamp) → ForSome last (λ heard. HasEightCounts heard.clock) → stamp ≡ begun_stamp home clock last → IsBegunAt home (clock_of home log) stamp
  begun_at last stamp eight is = record { last = last; eight = eight; is = is ∙ ap (λ (c : Clock). begun_stamp home c last) kept.clock_is }

  -- its stamp is after the last one that was heard, which counts no more of the gatekeeper's events than it made
  pub begun_after : HasEight → HeardIsBefore → (view : GateView) (last : Option Stamp) (stamp : Stamp) → view.home ≡ home → view.log ≡ log → ForSome last (λ heard. HasEightCounts heard.clock) → stamp ≡ begun_stamp home clock last → (heard : Stamp) → last ≡ Some heard → IsTrue (counts_no_more view.home (clock_of view.home view.log) heard.clock) → IsTrue (stamp_before heard stamp)
  begun_after has_eight heard_before view last stamp home_is log_is eight is heard last_is no_more =
      let clock_is : clock_of view.home view.log ≡ clock = (λ i. clock_of (home_is i) (log_is i)) ∙ sym kept.clock_is in
      let counts : IsTrue (counts_no_more home clock heard.clock) = subst (λ (c : Clock). IsTrue (counts_no_more home c heard.clock)) clock_is (subst (λ n. IsTrue (counts_no_more n (clock_of view.home view.log) heard.clock)) home_is no_more) in
      let stamp_is : begun_stamp home clock (Some heard) ≡ stamp = sym (is ∙ ap (λ (l : Option Stamp). begun_stamp home clock l) last_is) in
      subst (λ (s : Stamp). IsTrue (stamp_before heard s)) stamp_is (heard_before home clock heard.clock kept.home_is (eight_kept has_eight) (eight heard last_is) counts)

  -- to a shard past the last one nothing was sent, under any number
  pub fetched_beyond : SendsNoneBeyond → (view : GateView) (shard number : ℕ) → view.log ≡ log → shards ≤ shard → None ≡ sent_as number (channel_of shard view.log)
  fetched_beyond none view shard number log_is beyond =
      let empty : channel_of shard view.log ≡ [] = ap (channel_of shard) log_is ∙ none home shards shard log kept.rules beyond in
      rw empty (elim (cases_Bool (nat_eq number 0)) [
        | inl first ↦ rw first refl
        | inr some ↦ rw some refl
      ])

  -- what is found on a shard's channel under a number is what the log says was sent there
  pub fetched_at : (view : GateView) (shard number : ℕ) → view.log ≡ log → (channel : Channel Place) → slice_get channels shard ≡ Some channel → (found : Option Message) → found ≡ option_and_then (message_at nops log) (sent_as number channel.sent) → found ≡ sent_as number (channel_of shard view.log)
  fetched_at view shard number log_is channel at found is =
      is ∙ lead-found nops log channel.sent (channel_of shard log) number (kept.channels_are shard channel at) ∙ ap (λ l. sent_as number (channel_of shard l)) (sym log_is)
