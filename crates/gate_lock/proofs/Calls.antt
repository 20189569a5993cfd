-- The gatekeeper's other calls: they keep what its type keeps.
-- Used by `begin_program`, `begin_tx`, `finish`, `hear`, `nop` and `send`.
use Rattle.std.proofs.Common.{◌≡◌, ℕ, ◌<◌, List, refl, sym}
use Rattle.std.specs.Prelude.{Result, Ok, Err, IfOk, OnOk, OnErr}
use Rattle.std.specs.Option.{ForSome}
use Rattle.graph_ops.specs.declared.op.Op.{Op}
use Rattle.vector_stamp.specs.declared.clock.Clock.{Clock}
use Rattle.vector_stamp.specs.declared.clock.Stamp.{Stamp}
use Rattle.weave_entries.specs.declared.gate_log.GateDeed.TheVariants.{BeganTx, BeganProgram, Sent, Nop, Heard, Finished}
use Rattle.weave_entries.specs.declared.verdict.Verdict.{Verdict}
use Rattle.weave_entries.specs.GateReplay.{BegunRequest, clock_of, flight_of, low_mark, next_stamp, running_of}
use Rattle.weave_entries.specs.GateRules.{IsGateLog}
use Rattle.weave_entries.specs.Sending.{messages_of}
use Rattle.gatekeeper.specs.Gates.{Adds, GateView, SendsFlight}
use Rattle.weave_account.specs.Channels.{SendsJudged}
use Rattle.weave_account.specs.Clocks.{IsKnown}
use Rattle.seen_logs.specs.References.{EndsAsSeen}
use Rattle.gate_lock.specs.declared.notes.GateNotes.{GateNotes}
use Rattle.gate_lock.specs.LowerLaws.{LawsForGateNotes}
use Rattle.gate_lock.specs.Notes.{HasJudged, GateIsKept, seen_of_gate}
use Rattle.gate_lock.proofs.Adding.{IsBegin, clock_known, hears_known, kept_after, kept_still, kept_then, stamped}

-- the begin of a transaction is an event with its stamp, and refers to no more than what the stamp counts
pub begins_tx : (request : ℕ) → IsBegin (λ (stamp : Stamp). BeganTx request stamp)
begins_tx request = record { event = λ stamp. refl; refers = λ account shards log author stamp known. known; hears = λ home log stamp. tt }

-- the same of the begin of a program
pub begins_program : (request : ℕ) → IsBegin (λ (stamp : Stamp). BeganProgram request stamp)
begins_program request = record { event = λ stamp. refl; refers = λ account shards log author stamp known. known; hears = λ home log stamp. tt }

module _ (laws : LawsForGateNotes) (old new : GateView) (notes : GateNotes) (kept : GateIsKept old notes)
    (rules_now : IsGateLog new.home new.shards new.log) (author : ℕ) where
  -- a gatekeeper that finishes a program whose visits were seen, or can't, keeps what its type keeps
  pub kept_finished : {A F : Type 0} (r : Result A F) (request : ℕ) → EndsAsSeen (seen_of_gate old notes) request → OnOk r
      (Adds old new author (Finished request)) → OnErr r (new ≡ old) → GateIsKept new notes
  kept_finished (Ok done) request ends adds refused = kept_then laws old new notes kept author (Finished request) adds rules_now tt ends
  kept_finished (Err fault) request ends adds refused = kept_still old new notes kept refused

  -- so does one that hears a clock of which all that it counts was seen, or can't
  pub kept_heard : {A F : Type 0} (r : Result A F) (clock : Clock) → old.home < 8 → IsGateLog old.home old.shards old.log → IsKnown
      (seen_of_gate old notes) clock
      → OnOk r (Adds old new author (Heard clock)) → OnErr r (new ≡ old) → GateIsKept new notes
  kept_heard (Ok done) clock small rules known adds refused =
      kept_then laws old new notes kept author (Heard clock) adds rules_now (hears_known laws old notes kept small rules clock known) known
  kept_heard (Err fault) clock small rules known adds refused = kept_still old new notes kept refused

  -- so does one that sends an empty message with its next stamp and its low mark, or can't
  pub kept_nop : {F : Type 0} (r : Result ℕ F) (shard : ℕ) → old.home < 8
      → IfOk r (λ (number : ℕ). let stamp = next_stamp old.home (clock_of old.home old.log) in
      Adds old new author (Nop shard number stamp (low_mark stamp (running_of old.log)))) → OnErr r (new ≡ old) → GateIsKept new notes
  kept_nop (Ok number) shard small adds refused =
      let clock = clock_of old.home old.log in
      let stamp = next_stamp old.home clock in
      let deed = Nop shard number stamp (low_mark stamp (running_of old.log)) in
      kept_after laws old new notes kept author deed adds rules_now tt
      (stamped laws old notes kept author deed new.spare small clock (clock_known laws old notes kept small) refl)
  kept_nop (Err fault) shard small adds refused = kept_still old new notes kept refused

  -- the messages are those of the judgement that was seen
  of_judgement : (flight : BegunRequest) (ops : List Op) (verdict : Verdict) → flight.author ≡ author → HasJudged (seen_of_gate old notes) flight ops verdict
      → SendsJudged (seen_of_gate old notes) old.shards old.log author flight.request (messages_of old.shards old.log flight ops verdict)
  of_judgement flight ops verdict by has = record {
    judged = has.judged;
    is_judged = has.is_judged;
    request_is = has.request_is;
    messages_are = λ i. messages_of old.shards old.log (record { author = by i; request = flight.request; stamp = sym has.stamp_is i })
        (sym has.ops_are i) (sym has.verdict_is i);
  }

  -- a gatekeeper that sends the author's flight, by a judgement that was seen, or can't, keeps what its type keeps
  pub kept_sent : {A F : Type 0} (r : Result A F) (ops : List Op) (verdict : Verdict) → ForSome (flight_of old.log)
      (λ (flight : BegunRequest). flight.author ≡ author)
      → ForSome (flight_of old.log) (λ (flight : BegunRequest). HasJudged (seen_of_gate old notes) flight ops verdict)
      → OnOk r (SendsFlight old new author ops verdict) → OnErr r (new ≡ old) → GateIsKept new notes
  kept_sent (Ok done) ops verdict by has sends refused =
      let flight = sends.flight in
      kept_then laws old new notes kept author (Sent flight.request (messages_of old.shards old.log flight ops verdict)) sends.adds rules_now tt
      (of_judgement flight ops verdict (by flight sends.flies) (has flight sends.flies))
  kept_sent (Err fault) ops verdict by has sends refused = kept_still old new notes kept refused
