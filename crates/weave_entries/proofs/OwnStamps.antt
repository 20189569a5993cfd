-- The stamps of what was begun and sent are stamps that the gatekeeper made.
-- Used by `low_marks_are_below`, `messages_come_before`, `stamps_are_its_own`, LowMarks, NonePast and 11 crates above.
use Rattle.std.proofs.Common.{◌≡◌, ℕ, List, [], ◌∷◌, ◌++◌, Contains, Some, inl, inr, refl, sym, subst}
use Rattle.std.proofs.lemmas.List.Elements.{Contains-append_cases, Contains-append_left, Contains-append_right}
use Rattle.weave_data.proofs.Members.{has_none, has_head, only, filter_has, map_has, flat_has, has_flat}
use Rattle.vector_stamp.specs.declared.clock.Clock.{Clock}
use Rattle.vector_stamp.specs.declared.clock.Stamp.{Stamp}
use Rattle.graph_ops.specs.declared.op.Op.{Op}
use Rattle.weave_entries.specs.declared.message.Message.{Message}
use Rattle.weave_entries.specs.declared.message.Addressed.{Addressed}
use Rattle.weave_entries.specs.declared.verdict.Verdict.{Verdict}
use Rattle.weave_entries.specs.declared.verdict.Verdict.TheVariants.{Committed, Conflict, Refused}
use Rattle.weave_entries.specs.declared.gate_log.GateEntry.{GateEntry}
use Rattle.weave_entries.specs.declared.gate_log.GateDeed.{GateDeed}
use Rattle.weave_entries.specs.declared.gate_log.GateDeed.TheVariants.{BeganTx, BeganProgram, Sent, Nop, Heard, Raised, Finished}
use Rattle.weave_entries.specs.GateReplay.{BegunRequest, stamps_by, stamps_of, tx_by, program_by, begun_by, begun_in, txs_of, programs_of, flight_of, running_of, messages_by, to_shard, addressed_to, channel_of, sent_in, low_mark, clocks_by, clocks_in}
use Rattle.weave_entries.specs.GateRules.{FitsAs, IsGateLog}
use Rattle.weave_entries.specs.Sending.{message_to, messages_of, shards_named}
use Rattle.weave_entries.proofs.Once.{flight_begun, running_begun}
use Rattle.weave_entries.proofs.Replay.{sent-push, stamps-push, by_entries}

-- what was begun has one of the stamps

deed-begun : (author : ℕ) (deed : GateDeed) (b : BegunRequest) → Contains (begun_by author deed) b → Contains (stamps_by deed) b.stamp
deed-begun author (BeganTx request stamp) b has = subst (λ (x : BegunRequest). Contains (stamp ∷ []) x.stamp) (only _ b has) (has_head stamp [])
deed-begun author (BeganProgram request stamp) b has = subst (λ (x : BegunRequest). Contains (stamp ∷ []) x.stamp) (only _ b has) (has_head stamp [])
deed-begun author (Sent request messages) b has = absurd (has_none b has)
deed-begun author (Nop shard number stamp low) b has = absurd (has_none b has)
deed-begun author (Heard clock) b has = absurd (has_none b has)
deed-begun author (Raised epoch) b has = absurd (has_none b has)
deed-begun author (Finished request) b has = absurd (has_none b has)

-- the stamp of a begun request is one that the gatekeeper made
pub begun-stamp : (log : List GateEntry) (b : BegunRequest) → Contains (begun_in log) b → Contains (stamps_of log) b.stamp
begun-stamp log b has =
    let at = flat_has (λ (entry : GateEntry). begun_by entry.author entry.deed) log b has in
    has_flat (λ (entry : GateEntry). stamps_by entry.deed) log at.0 b.stamp at.1 (deed-begun at.0.author at.0.deed b at.2)

-- a begun transaction is one of the begun requests
pub tx-begun : (log : List GateEntry) (b : BegunRequest) → Contains (txs_of log) b → Contains (begun_in log) b
tx-begun log b has =
    let at = flat_has (λ (entry : GateEntry). tx_by entry.author entry.deed) log b has in
    has_flat (λ (entry : GateEntry). begun_by entry.author entry.deed) log at.0 b at.1 (Contains-append_left (tx_by at.0.author at.0.deed) (program_by at.0.author at.0.deed) b at.2)

-- a program that was begun is one of the requests that were begun
pub program-begun : (log : List GateEntry) (b : BegunRequest) → Contains (programs_of log) b → Contains (begun_in log) b
program-begun log b has =
    let at = flat_has (λ (entry : GateEntry). program_by entry.author entry.deed) log b has in
    has_flat (λ (entry : GateEntry). begun_by entry.author entry.deed) log at.0 b at.1 (Contains-append_right (tx_by at.0.author at.0.deed) (program_by at.0.author at.0.deed) b at.2)

-- the stamp of the transaction in flight is one that the gatekeeper made
pub flight-stamp : (log : List GateEntry) (b : BegunRequest) → flight_of log ≡ Some b → Contains (stamps_of log) b.stamp
flight-stamp log b is = begun-stamp log b (tx-begun log b (flight_begun log b is))

-- the stamp of a program that runs is one of the log's stamps
pub running-stamp : (log : List GateEntry) (b : BegunRequest) → Contains (running_of log) b → Contains (stamps_of log) b.stamp
running-stamp log b has = begun-stamp log b (program-begun log b (running_begun log b has))

-- the messages of a transaction have its stamp and its low mark
pub record IsOf (stamp : Stamp) (low : Clock) (addressed : Addressed) : Type 0 where
  pub stamp_is : addressed.message.stamp ≡ stamp
  pub low_is : addressed.message.low ≡ low

-- each message of a transaction has its stamp, and the low mark over the programs that are running
pub of-begun : (shards : ℕ) (log : List GateEntry) (begun : BegunRequest) (ops : List Op) (verdict : Verdict) (addressed : Addressed) → Contains (messages_of shards log begun ops verdict) addressed → IsOf begun.stamp (low_mark begun.stamp (running_of log)) addressed
of-begun shards log begun ops (Committed number answers counts) addressed has =
    let at = map_has (message_to shards log begun ops counts) (shards_named shards counts) addressed has in
    subst (IsOf begun.stamp (low_mark begun.stamp (running_of log))) at.2 (record { stamp_is = refl; low_is = refl })
of-begun shards log begun ops (Conflict vertex newer) addressed has = absurd (has_none addressed has)
of-begun shards log begun ops (Refused op reason at) addressed has = absurd (has_none addressed has)

-- what was sent has one of the stamps
sent_step : (home shards : ℕ) (log : List GateEntry) (author : ℕ) (deed : GateDeed) → FitsAs home shards log author deed → (addressed : Addressed) → Contains (messages_by deed) addressed → Contains (stamps_of log ++ stamps_by deed) addressed.message.stamp
sent_step home shards log author (BeganTx request stamp) fits addressed has = absurd (has_none addressed has)
sent_step home shards log author (BeganProgram request stamp) fits addressed has = absurd (has_none addressed has)
sent_step home shards log author (Sent request messages) fits addressed has =
    let begun : BegunRequest = record { author = author; request = request; stamp = fits.stamp } in
    let is = of-begun shards log begun fits.ops fits.verdict addressed (subst (λ (ms : List Addressed). Contains ms addressed) fits.messages_are has) in
    Contains-append_left (stamps_of log) [] addressed.message.stamp (subst (λ (s : Stamp). Contains (stamps_of log) s) (sym is.stamp_is) (flight-stamp log begun fits.flight))
sent_step home shards log author (Nop shard number stamp low) fits addressed has =
    subst (λ (a : Addressed). Contains (stamps_of log ++ stamp ∷ []) a.message.stamp) (only _ addressed has) (Contains-append_right (stamps_of log) (stamp ∷ []) stamp (has_head stamp []))
sent_step home shards log author (Heard clock) fits addressed has = absurd (has_none addressed has)
sent_step home shards log author (Raised epoch) fits addressed has = absurd (has_none addressed has)
sent_step home shards log author (Finished request) fits addressed has = absurd (has_none addressed has)

-- the stamp of each message that was sent is one that the gatekeeper made
pub sent-stamp : (home shards : ℕ) (log : List GateEntry) → IsGateLog home shards log → (addressed : Addressed) → Contains (sent_in log) addressed → Contains (stamps_of log) addressed.message.stamp
sent-stamp home shards =
    by_entries home shards (λ log. (addressed : Addressed) → Contains (sent_in log) addressed → Contains (stamps_of log) addressed.message.stamp)
    (λ addressed has. absurd (has_none addressed has))
    (λ log entry right fits so_far addressed has.
    subst (λ (ss : List Stamp). Contains ss addressed.message.stamp) (sym (stamps-push log entry))
    (elim (Contains-append_cases (sent_in log) (messages_by entry.deed) addressed (subst (λ (ms : List Addressed). Contains ms addressed) (sent-push log entry) has)) [
      | inl earlier ↦ Contains-append_left (stamps_of log) (stamps_by entry.deed) addressed.message.stamp (so_far addressed earlier)
      | inr new ↦ sent_step home shards log entry.author entry.deed fits addressed new
    ]))

-- what is on a channel was sent
pub channel-sent : (shard : ℕ) (log : List GateEntry) (message : Message) → Contains (channel_of shard log) message → (addressed : Addressed) × Contains (sent_in log) addressed × (addressed.message ≡ message)
channel-sent shard log message has =
    let on = map_has (λ (addressed : Addressed). addressed.message) (addressed_to shard log) message has in
    let at = flat_has (λ (entry : GateEntry). to_shard shard (messages_by entry.deed)) log on.0 on.1 in
    (on.0, has_flat (λ (entry : GateEntry). messages_by entry.deed) log at.0 on.0 at.1 ((filter_has _ (messages_by at.0.deed) on.0 at.2).0), on.2)

-- the clock of each stamp is one of the log's clocks
deed-clock : (deed : GateDeed) (stamp : Stamp) → Contains (stamps_by deed) stamp → Contains (clocks_by deed) stamp.clock
deed-clock (BeganTx request made) stamp has = subst (λ (s : Stamp). Contains (made.clock ∷ []) s.clock) (only made stamp has) (has_head made.clock [])
deed-clock (BeganProgram request made) stamp has = subst (λ (s : Stamp). Contains (made.clock ∷ []) s.clock) (only made stamp has) (has_head made.clock [])
deed-clock (Sent request messages) stamp has = absurd (has_none stamp has)
deed-clock (Nop shard number made low) stamp has = subst (λ (s : Stamp). Contains (made.clock ∷ low ∷ []) s.clock) (only made stamp has) (has_head made.clock (low ∷ []))
deed-clock (Heard clock) stamp has = absurd (has_none stamp has)
deed-clock (Raised epoch) stamp has = absurd (has_none stamp has)
deed-clock (Finished request) stamp has = absurd (has_none stamp has)

-- the clock of each stamp that the gatekeeper made is one of the log's clocks
pub stamp-clock : (log : List GateEntry) (stamp : Stamp) → Contains (stamps_of log) stamp → Contains (clocks_in log) stamp.clock
stamp-clock log stamp has =
    let at = flat_has (λ (entry : GateEntry). stamps_by entry.deed) log stamp has in
    has_flat (λ (entry : GateEntry). clocks_by entry.deed) log at.0 stamp.clock at.1 (deed-clock at.0.deed stamp at.2)
