-- The laws of the crates below that driving relies on, in one record. No public contract cites this.
use Rattle.std.specs.Prelude.{◌≡◌, ℕ, ◌<◌, ◌≤◌, not, ◌==◌, length, Contains, IsTrue, None, Some}
use Rattle.vector_stamp.specs.declared.clock.Stamp.{Stamp}
use Rattle.vector_stamp.specs.Clocks.{clock_after_hearing}
use Rattle.vector_stamp.specs.Order.{stamp_before}
use Rattle.weave_data.specs.declared.name.Name.{Name}
use Rattle.program_defs.specs.declared.program.Program.{Program}
use Rattle.program_defs.specs.declared.script.Request.{Request}
use Rattle.program_defs.specs.declared.script.Script.{Script}
use Rattle.program_defs.specs.declared.script.Step.{Step}
use Rattle.program_defs.specs.declared.script.Work.TheVariants.{Look}
use Rattle.program_defs.specs.Limits.{IsWithinLimits}
use Rattle.program_defs.specs.Visits.{next_visit}
use Rattle.program_defs.specs.Works.{is_change}
use Rattle.report_rules.specs.Lookups.{is_some_and, request_at}
use Rattle.shard_queue.specs.Outbox.{sent_as}
use Rattle.weave_entries.specs.declared.message.Addressed.{Addressed}
use Rattle.weave_entries.specs.declared.message.Message.{Message}
use Rattle.weave_entries.specs.GateReplay.{BegunRequest, addressed_to, channel_of, clock_of, flight_of, has_ended_in, next_stamp, stamps_of}
use Rattle.weave_entries.specs.SessionReplay.{has_begun_in}
use Rattle.weave_entries.specs.ShardReplay.{arrived_at, first_unready}
use Rattle.weave_account.specs.declared.account.Account.{Account}
use Rattle.weave_account.specs.Account.{gate_log, reads_of, session_log, shard_log, stamp_of, NoneInFlight}
use Rattle.weave_account.specs.Gatekeepers.{BeginEachOnce}
use Rattle.weave_account.specs.GoesOn.{GoesOn}
use Rattle.weave_account.specs.IsAccount.{IsAccount}
use Rattle.step_rules.specs.CoreState.{CoreState}
use Rattle.step_rules.specs.IsCore.{IsCore, IsStepOf}
use Rattle.step_rules.specs.Trace.{state_after}
use Rattle.drive_rules.specs.Heads.{AllArrived, AllProcessed, CanApply}
use Rattle.drive_rules.specs.Readiness.{IsPassed}
use Rattle.drive_rules.specs.Links.{link_count}

pub record LawsForDriving : Type 0 where
  -- steps_keep_the_core
  pub goes_on : (script : Script) (state : CoreState) (step : Step) → IsWithinLimits script → IsStepOf script step
      → IsCore script state
      → GoesOn state.account (state_after script state step).account
  -- messages_arrive_as_sent
  pub arrived : (script : Script) (account : Account) → IsWithinLimits script → IsAccount script account
      → (shard home number : ℕ) (message : Message)
      → arrived_at home number (shard_log account shard) ≡ Some message
      → Contains (addressed_to shard (gate_log account home))
      (record { shard = shard; number = number; message = message })
  pub gatekeepers : (script : Script) (account : Account) → IsWithinLimits script → IsAccount script account
      → (shard home : ℕ) (addressed : Addressed)
      → Contains (addressed_to shard (gate_log account home)) addressed → home < script.gates
  pub numbers : (script : Script) (account : Account) → IsWithinLimits script → IsAccount script account
      → (shard home : ℕ) (addressed : Addressed)
      → Contains (addressed_to shard (gate_log account home)) addressed
      → (1 ≤ addressed.number) × (addressed.number ≤ length (channel_of shard (gate_log account home)))
  pub numbered : (script : Script) (account : Account) → IsWithinLimits script → IsAccount script account
      → (shard home : ℕ) (addressed : Addressed)
      → Contains (addressed_to shard (gate_log account home)) addressed
      → sent_as addressed.number (channel_of shard (gate_log account home)) ≡ Some addressed.message
  -- no_shard_is_stuck
  pub all_processed : (script : Script) (account : Account) → IsWithinLimits script → IsAccount script account
      → NoneInFlight account
      → (shard : ℕ) → AllArrived account shard → ((home : ℕ) → ¬ CanApply account shard home)
      → AllProcessed account shard
  -- known_clocks_may_be_heard
  pub after_its_home : (script : Script) (account : Account) → IsWithinLimits script → IsAccount script account
      → (gate home : ℕ) → gate < script.gates
      → home < script.gates → (stamp : Stamp) → Contains (stamps_of (gate_log account home)) stamp
      → IsTrue (stamp_before stamp (next_stamp gate
      (clock_after_hearing gate (clock_of gate (gate_log account gate)) (clock_of home (gate_log account home)))))
  -- readiness_stays
  pub reached : (script : Script) (account : Account) → IsWithinLimits script → IsAccount script account
      → (shard : ℕ) (stamp : Stamp)
      → ((home : ℕ) → home < script.gates → IsPassed account shard stamp home)
      → first_unready script.gates stamp (shard_log account shard) ≡ None
  pub stays : (script : Script) (account next : Account) → IsWithinLimits script → IsAccount script account
      → IsAccount script next → GoesOn account next
      → (shard : ℕ) (stamp : Stamp) → first_unready script.gates stamp (shard_log account shard) ≡ None
      → first_unready script.gates stamp (shard_log next shard) ≡ None
  -- programs_read_few
  pub left : (script : Script) (account : Account) → IsWithinLimits script → IsAccount script account
      → (r : ℕ) (request : Request) (program : Program) → request_at script r ≡ Some request
      → request.work ≡ Look program
      → (v : Name) → next_visit (reads_of account r) program ≡ Some v → length (reads_of account r) ≤ link_count script
  -- reads_stay
  pub whole : (script : Script) (state : CoreState) (step : Step) → IsWithinLimits script → IsStepOf script step
      → IsCore script state
      → (r : ℕ) (request : Request) (program : Program) → request_at script r ≡ Some request
      → request.work ≡ Look program
      → next_visit (reads_of state.account r) program ≡ None
      → reads_of (state_after script state step).account r ≡ reads_of state.account r
  -- requests_end_or_go_on
  pub sent : (script : Script) (account : Account) → IsWithinLimits script → IsAccount script account
      → (r : ℕ) (request : Request) → request_at script r ≡ Some request → IsTrue (is_change request.work)
      → IsTrue (has_begun_in r (session_log account request.session))
      → has_ended_in r (gate_log account request.gate)
      ≡ not (is_some_and (λ (flight : BegunRequest). flight.request == r) (flight_of (gate_log account request.gate)))
  -- facts_stay_true
  pub stamps : (script : Script) (account next : Account) → GoesOn account next → BeginEachOnce next
      → (r : ℕ) (stamp : Stamp) → stamp_of account r ≡ Some stamp → stamp_of next r ≡ Some stamp
