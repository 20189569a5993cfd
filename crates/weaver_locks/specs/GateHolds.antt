-- What a hold of a gatekeeper is for the hand that is in it, and what the calls answer there.
use Rattle.std.specs.Prelude.{◌≡◌, ◌∷◌, ◌++◌, ℕ, false, List, [], Result, Ok, Err, Some}
use Rattle.graph_ops.specs.declared.op.Op.{Op}
use Rattle.gatekeeper.specs.declared.fault.GateFault.{GateFault}
use Rattle.gatekeeper.specs.declared.fault.GateFault.TheVariants.{Idle}
use Rattle.gatekeeper.specs.Answers.{IsRefusedWhere}
use Rattle.weave_entries.specs.declared.gate_log.GateDeed.TheVariants.{Sent}
use Rattle.weave_entries.specs.declared.verdict.Verdict.{Verdict}
use Rattle.weave_entries.specs.Sending.{messages_of}
use Rattle.weave_entries.specs.declared.gate_log.GateDeed.{GateDeed}
use Rattle.weave_entries.specs.declared.gate_log.GateEntry.{GateEntry}
use Rattle.weave_entries.specs.GateReplay.{BegunRequest, clock_of, flight_of}
use Rattle.weave_account.specs.declared.account.Account.{Account}
use Rattle.weave_account.specs.Account.{gate_log}
use Rattle.weave_account.specs.Clocks.{IsKnown}
use Rattle.weave_account.specs.GoesOn.{IsBeginningOf}
use Rattle.seen_logs.specs.Seen.{GateRefersWithin, IsWithin}
use Rattle.gate_lock.specs.Notes.{HasJudged}
use Rattle.weaver_locks.specs.declared.hand.Hand.{Hand}
use Rattle.weaver_locks.specs.Hands.{hand_number, made_by, seen_by, with_gate_entries}

-- the entry of a hand's deed
abbrev pub gate_entry_by : Hand → GateDeed → GateEntry
gate_entry_by hand deed = record { author = hand_number hand; deed = deed }

-- one entry of the hand if the call answered Ok, and none if it was refused
abbrev pub gate_entries_of : {A F : Type 0} → Hand → (A → GateDeed) → Result A F → List GateEntry
gate_entries_of hand deed (Ok answer) = gate_entry_by hand (deed answer) ∷ []
gate_entries_of hand deed (Err fault) = []

-- A hand was in the lock of a gatekeeper, whose log was `before`, and added these entries of its own there, and nothing
-- else anywhere. It has seen the whole log, all that the log's entries refer to, and what the gatekeeper's clock
-- counts.
pub record WasAtGate (shards : ℕ) (old new : Hand) (gate : ℕ) (before added : List GateEntry) : Type 0 where
  pub number : hand_number new ≡ hand_number old
  pub found : IsBeginningOf (gate_log (seen_by old) gate) before
  pub left : gate_log (seen_by new) gate ≡ before ++ added
  pub made : made_by new ≡ with_gate_entries gate added (made_by old)
  pub more : IsWithin (seen_by old) (seen_by new)
  pub refers : GateRefersWithin shards (seen_by new) gate
  pub clock : IsKnown (seen_by new) (clock_of gate (gate_log (seen_by new) gate))

-- A transaction of the hand is in flight at the gatekeeper, and this verdict on these operations is its own.
pub record MaySend (seen : Account) (number gate : ℕ) (ops : List Op) (verdict : Verdict) : Type 0 where
  pub flight : BegunRequest
  pub flies : flight_of (gate_log seen gate) ≡ Some flight
  pub own : flight.author ≡ number
  pub judged : HasJudged seen flight ops verdict

-- The hand's transaction was in flight, as the hand had seen, and its messages were sent by the verdict, unless it was
-- out of memory.
pub record SendsIn (shards : ℕ) (old new : Hand) (gate : ℕ) (before : List GateEntry) (ops : List Op)
    (verdict : Verdict) (result : Result (Unit {0}) GateFault) : Type 0 where
  pub flight : BegunRequest
  pub flies : flight_of before ≡ Some flight
  pub as_seen : flight_of (gate_log (seen_by old) gate) ≡ Some flight
  pub own : flight.author ≡ hand_number old
  pub was : WasAtGate shards old new gate before
      (gate_entries_of old (λ _. Sent flight.request (messages_of shards before flight ops verdict)) result)
  pub never_idle : IsRefusedWhere Idle false result
