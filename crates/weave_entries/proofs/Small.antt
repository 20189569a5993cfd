-- The own count and the numbers of messages are at most the number of entries.
-- Used by `channels_rise`, `counts_are_few` and Ticks.
use Rattle.std.proofs.Common.{◌≡◌, ℕ, zero, suc, ◌+◌, ◌<◌, ◌≤◌, nat_eq, List, [], ◌∷◌, ◌++◌, length, replicate, slice_index, inl, inr, refl, sym, ap, subst, ◌∙◌, arith}
use Rattle.std.proofs.lemmas.Bool.{cases_Bool, eqb-true}
use Rattle.std.proofs.lemmas.List.{length-append}
use Rattle.vector_stamp.specs.declared.clock.Clock.{Clock}
use Rattle.vector_stamp.specs.declared.clock.Stamp.{Stamp}
use Rattle.vector_stamp.specs.Order.{count_of, HasEightCounts}
use Rattle.vector_stamp.specs.ClockLaws.{ClockLaws}
use Rattle.vector_stamp.specs.Clocks.{first_clock, clock_after_tick}
use Rattle.graph_ops.specs.declared.op.Op.{Op}
use Rattle.weave_entries.specs.declared.message.Addressed.{Addressed}
use Rattle.weave_entries.specs.declared.gate_log.GateEntry.{GateEntry}
use Rattle.weave_entries.specs.declared.gate_log.GateDeed.{GateDeed}
use Rattle.weave_entries.specs.declared.gate_log.GateDeed.TheVariants.{BeganTx, BeganProgram, Sent, Nop, Heard, Raised, Finished}
use Rattle.weave_entries.specs.GateReplay.{BegunRequest, clock_after_last, begun_stamp, clock_after, clock_of, messages_by, to_shard, addressed_to}
use Rattle.weave_entries.specs.GateRules.{IsBegunAt, FitsAs, IsGateLog}
use Rattle.weave_entries.specs.Sending.{messages_of}
use Rattle.weave_entries.proofs.Replay.{clock-push, addressed-push, by_entries}
use Rattle.weave_entries.proofs.Rising.{own-hearing, own-last, last-eight, rises}
use Rattle.weave_entries.proofs.Picked.{OneAtMost, NoMessage, OneMessage, one_at_most, none_beyond}

module _ (laws : ClockLaws) where
  zeroes : (many place : ℕ) → slice_index (replicate many 0) place ≡ 0
  zeroes zero place = refl
  zeroes (suc many) zero = refl
  zeroes (suc many) (suc place) = zeroes many place

  -- the first clock of an epoch counts no event of any gatekeeper
  pub own-first : (home epoch : ℕ) → count_of home (first_clock epoch) ≡ 0
  own-first home epoch = zeroes 8 home

  module _ (home : ℕ) (clock : Clock) (below : home < 8) (eight : HasEightCounts clock) where
    -- an event of the gatekeeper raises its own count by one
    pub own-tick : count_of home (clock_after_tick home clock) ≡ count_of home clock + 1
    own-tick = laws.tick_counts home clock below eight

    own-begun : (stamp : Stamp) → IsBegunAt home clock stamp → count_of home stamp.clock ≤ count_of home clock + 1
    own-begun stamp begun =
        let last = own-last laws home clock below eight begun.last begun.eight in
        let more = laws.tick_counts home (clock_after_last home clock begun.last) below (last-eight laws home clock below eight begun.last begun.eight) in
        let e : count_of home stamp.clock ≡ count_of home ((begun_stamp home clock begun.last).clock) = ap (λ (s : Stamp). count_of home s.clock) begun.is in
        omega arith

    -- a right deed raises the own count by at most one
    own_step : (shards : ℕ) (log : List GateEntry) (author : ℕ) (deed : GateDeed) → clock ≡ clock_of home log → FitsAs home shards log author deed → count_of home (clock_after home clock deed) ≤ count_of home clock + 1
    own_step shards log author (BeganTx request stamp) is fits = own-begun stamp (subst (λ (c : Clock). IsBegunAt home c stamp) (sym is) fits.begun)
    own_step shards log author (BeganProgram request stamp) is fits = own-begun stamp (subst (λ (c : Clock). IsBegunAt home c stamp) (sym is) fits)
    own_step shards log author (Sent request messages) is fits = omega arith
    own_step shards log author (Nop shard number stamp low) is fits =
        let e : count_of home stamp.clock ≡ count_of home (clock_after_tick home clock) = ap (λ (s : Stamp). count_of home s.clock) fits.stamp_is ∙ ap (λ (c : Clock). count_of home (clock_after_tick home c)) (sym is) in
        let more = own-tick in
        omega arith
    own_step shards log author (Heard heard) is fits = let h = own-hearing laws home clock below eight heard fits in omega arith
    own_step shards log author (Raised epoch) is fits = let e = own-first home epoch in omega arith
    own_step shards log author (Finished request) is fits = omega arith

  -- the own count of a gatekeeper is at most the number of its log's entries
  pub own_small : (home shards : ℕ) → home < 8 → (log : List GateEntry) → IsGateLog home shards log → count_of home (clock_of home log) ≤ length log
  own_small home shards below =
      by_entries home shards (λ log. count_of home (clock_of home log) ≤ length log)
      (let e = own-first home 0 in omega arith)
      (λ log entry right fits so_far.
      let more = own_step home (clock_of home log) below ((rises laws home shards below log right).eight) shards log entry.author entry.deed refl fits in
      let e : count_of home (clock_of home (log ++ entry ∷ [])) ≡ count_of home (clock_after home (clock_of home log) entry.deed) = ap (λ (c : Clock). count_of home c) (clock-push log entry home) in
      omega (arith, length-append log (entry ∷ [])))

-- a list of no message, or of the one made for a shard, has at most one message
sent_one : (shards : ℕ) (log : List GateEntry) (begun : BegunRequest) (ops : List Op) (shard : ℕ) (some : List Addressed) → OneAtMost shards log begun ops shard some → length some ≤ 1
sent_one shards log begun ops shard some NoMessage = omega arith
sent_one shards log begun ops shard some (OneMessage counts) = omega arith

-- a right deed sends at most one message to a shard
sent_step : (home shards : ℕ) (log : List GateEntry) (author : ℕ) (deed : GateDeed) (shard : ℕ) → FitsAs home shards log author deed → length (to_shard shard (messages_by deed)) ≤ 1
sent_step home shards log author (BeganTx request stamp) shard fits = omega arith
sent_step home shards log author (BeganProgram request stamp) shard fits = omega arith
sent_step home shards log author (Sent request messages) shard fits =
    let begun : BegunRequest = record { author = author; request = request; stamp = fits.stamp } in
    let made : messages_of shards log begun fits.ops fits.verdict ≡ messages = sym fits.messages_are in
    subst (λ (ms : List Addressed). length (to_shard shard ms) ≤ 1) made (sent_one shards log begun fits.ops shard _ (one_at_most shards log begun fits.ops shard fits.verdict))
sent_step home shards log author (Nop to number stamp low) shard fits =
    elim (cases_Bool (nat_eq to shard)) [
      | inl here ↦ rw here (omega arith)
      | inr other ↦ rw other (omega arith)
    ]
sent_step home shards log author (Heard heard) shard fits = omega arith
sent_step home shards log author (Raised epoch) shard fits = omega arith
sent_step home shards log author (Finished request) shard fits = omega arith

-- the messages that a gatekeeper sent to a shard are at most as many as its log's entries
pub sent_small : (home shards shard : ℕ) → (log : List GateEntry) → IsGateLog home shards log → length (addressed_to shard log) ≤ length log
sent_small home shards shard =
    by_entries home shards (λ log. length (addressed_to shard log) ≤ length log)
    (omega arith)
    (λ log entry right fits so_far.
    let one = sent_step home shards log entry.author entry.deed shard fits in
    let e = ap length (addressed-push log entry shard) in
    omega (arith, length-append log (entry ∷ []), length-append (addressed_to shard log) (to_shard shard (messages_by entry.deed))))

-- a right deed sends no message to a shard that isn't there
none_step : (home shards : ℕ) (log : List GateEntry) (author : ℕ) (deed : GateDeed) (shard : ℕ) → shards ≤ shard → FitsAs home shards log author deed → to_shard shard (messages_by deed) ≡ []
none_step home shards log author (BeganTx request stamp) shard beyond fits = refl
none_step home shards log author (BeganProgram request stamp) shard beyond fits = refl
none_step home shards log author (Sent request messages) shard beyond fits =
    ap (to_shard shard) fits.messages_are ∙ none_beyond shards log (record { author = author; request = request; stamp = fits.stamp }) fits.ops shard fits.verdict beyond
none_step home shards log author (Nop to number stamp low) shard beyond fits =
    elim (cases_Bool (nat_eq to shard)) [
      | inl here ↦ let e : to ≡ shard = eqb-true to shard here in let within = fits.shard_is in absurd (omega arith)
      | inr other ↦ rw other refl
    ]
none_step home shards log author (Heard heard) shard beyond fits = refl
none_step home shards log author (Raised epoch) shard beyond fits = refl
none_step home shards log author (Finished request) shard beyond fits = refl

-- nothing is sent to a shard that isn't there
pub none_sent : (home shards shard : ℕ) → shards ≤ shard → (log : List GateEntry) → IsGateLog home shards log → addressed_to shard log ≡ []
none_sent home shards shard beyond =
    by_entries home shards (λ log. addressed_to shard log ≡ [])
    refl
    (λ log entry right fits so_far. addressed-push log entry shard ∙ ap (λ ms. ms ++ to_shard shard (messages_by entry.deed)) so_far ∙ none_step home shards log entry.author entry.deed shard beyond fits)
