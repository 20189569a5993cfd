-- What the machines do at `send`. No public contract cites this.
use Rattle.std.specs.Prelude.{◌≡◌, ◌⊎◌, ℕ, List, None, Some}
use Rattle.weave_entries.specs.declared.gate_log.GateDeed.TheVariants.{Sent}
use Rattle.weave_entries.specs.declared.store_log.StoreEntry.{StoreEntry}
use Rattle.weave_entries.specs.GateReplay.{BegunRequest, flight_of}
use Rattle.weave_entries.specs.Sending.{messages_of}
use Rattle.weave_entries.specs.StoreReplay.{Judgement, judgement_of}
use Rattle.report_rules.specs.declared.report.StepAnswer.{StepAnswer}
use Rattle.report_rules.specs.declared.report.StepAnswer.TheVariants.{Ok, Idle}
use Rattle.weaver_core.specs.GateTable.{GateTable, AddsToGate, gate_log_at}

-- the flight was sent by its author, with the messages of what was judged
pub record IsFlightSent (old new : GateTable) (store : List StoreEntry) (home : ℕ) : Type 0 where
  pub flight : BegunRequest
  pub flies : flight_of (gate_log_at old home) ≡ Some flight
  pub judged : Judgement
  pub is_judged : judgement_of flight.request store ≡ Some judged
  pub adds : AddsToGate old new home flight.author
      (Sent flight.request (messages_of old.shards (gate_log_at old home) flight judged.ops judged.verdict))

-- there is a flight without a verdict
pub record IsUnjudged (old : GateTable) (store : List StoreEntry) (home : ℕ) : Type 0 where
  pub flight : BegunRequest
  pub flies : flight_of (gate_log_at old home) ≡ Some flight
  pub not_judged : judgement_of flight.request store ≡ None

-- what `send` answers, and what it leaves
abbrev pub SendsJudgedFlight : GateTable → GateTable → List StoreEntry → ℕ → StepAnswer → Type 0
SendsJudgedFlight old new store home Ok = IsFlightSent old new store home
SendsJudgedFlight old new store home Idle =
    (new ≡ old) × ((flight_of (gate_log_at old home) ≡ None) ⊎ IsUnjudged old store home)
SendsJudgedFlight old new store home _ = ⊥
