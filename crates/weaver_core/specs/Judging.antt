-- What the machines do at `judge`. No public contract cites this.
use Rattle.std.specs.Prelude.{◌≡◌, ◌≢◌, ◌⊎◌, ◌<◌, ℕ, List, [], ◌∷◌, ◌++◌, length, All, IsSome, None, Some, is_some, true}
use Rattle.vector_stamp.specs.declared.clock.Stamp.{Stamp}
use Rattle.vector_stamp.specs.Coherence.{AreCoherent}
use Rattle.vector_stamp.specs.Order.{id_of}
use Rattle.graph_ops.specs.declared.op.Op.{Op}
use Rattle.order_graph.specs.Building.{ends_of}
use Rattle.program_defs.specs.declared.script.Script.{Script}
use Rattle.report_rules.specs.Lookups.{request_at}
use Rattle.report_rules.specs.declared.report.StepAnswer.{StepAnswer}
use Rattle.report_rules.specs.declared.report.StepAnswer.TheVariants.{Ok, Idle}
use Rattle.weave_entries.specs.declared.oracle_log.OracleEntry.{OracleEntry}
use Rattle.weave_entries.specs.declared.store_log.StoreEntry.{StoreEntry}
use Rattle.weave_entries.specs.declared.verdict.Verdict.{Verdict}
use Rattle.weave_entries.specs.GateReplay.{BegunRequest, flight_of}
use Rattle.weave_entries.specs.OracleReplay.{pairs_of_log}
use Rattle.weave_entries.specs.StoreReplay.{commits_of, judgement_of}
use Rattle.weave_entries.specs.StoreRule.{entries_of_settling, settled_if, stamps_judged, ops_bound}
use Rattle.backing_store.specs.Commits.{asked_at, judged_entry, stamps_kept, verdict_at}
use Rattle.step_rules.specs.Requests.{ops_in}
use Rattle.weaver_core.specs.GateTable.{GateTable, gate_log_at}

-- the operations of the flight's request
abbrev pub ops_in_flight : Script → BegunRequest → List Op
ops_in_flight script flight = ops_in (request_at script flight.request)

-- the store can be asked for a verdict on the flight
pub record CanBeJudged (script : Script) (store : List StoreEntry) (oracle : List OracleEntry)
    (flight : BegunRequest) : Type 0 where
  pub there : IsSome (request_at script flight.request)
  pub few : length (ops_in_flight script flight) < ops_bound
  pub new : All (λ (judged : Stamp). id_of judged ≢ id_of flight.stamp) (stamps_judged store)
  pub coherent : AreCoherent (flight.stamp ∷ stamps_kept (commits_of store) ++ ends_of (pairs_of_log oracle))

-- the verdict on the flight
abbrev pub verdict_on_flight : Script → List StoreEntry → List OracleEntry → BegunRequest → Verdict
verdict_on_flight script store oracle flight =
    verdict_at (pairs_of_log oracle) store flight.stamp (ops_in_flight script flight)

-- the flight is judged, in the logs of store and oracle
pub record IsJudgedNow (script : Script) (gates : GateTable) (store then_store : List StoreEntry)
    (oracle then_oracle : List OracleEntry) (home : ℕ) : Type 0 where
  pub flight : BegunRequest
  pub flies : flight_of (gate_log_at gates home) ≡ Some flight
  pub unjudged : judgement_of flight.request store ≡ None
  pub store_is : then_store ≡ store
      ++ judged_entry flight.author flight.request flight.stamp (ops_in_flight script flight) store
      (verdict_on_flight script store oracle flight) ∷ []
  pub oracle_is : then_oracle ≡ oracle ++ settled_if (verdict_on_flight script store oracle flight)
      (entries_of_settling flight.author (pairs_of_log oracle)
      (asked_at store flight.stamp (ops_in_flight script flight)) flight.stamp)

-- the flight has its verdict
pub record HasVerdict (gates : GateTable) (store : List StoreEntry) (home : ℕ) : Type 0 where
  pub flight : BegunRequest
  pub flies : flight_of (gate_log_at gates home) ≡ Some flight
  pub judged : is_some (judgement_of flight.request store) ≡ true

-- what `judge` answers, and what it leaves
abbrev pub JudgesFlight : Script → GateTable → List StoreEntry → List StoreEntry → List OracleEntry → List OracleEntry
    → ℕ → StepAnswer → Type 0
JudgesFlight script gates store then_store oracle then_oracle home Ok =
    IsJudgedNow script gates store then_store oracle then_oracle home
JudgesFlight script gates store then_store oracle then_oracle home Idle =
    (then_store ≡ store) × (then_oracle ≡ oracle)
    × ((flight_of (gate_log_at gates home) ≡ None) ⊎ HasVerdict gates store home)
JudgesFlight script gates store then_store oracle then_oracle home _ = ⊥
