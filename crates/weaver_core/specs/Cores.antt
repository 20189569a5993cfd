-- A core as contracts see it.
use Rattle.std.specs.Prelude.{◌≡◌, ℕ, List, length, map, IsTrue, Some, if◌then◌else◌, ⊤}
use Rattle.std.specs.List.{range_with_len}
use Rattle.weave_data.specs.Limits.{most_sessions}
use Rattle.program_defs.specs.declared.script.Script.{Script}
use Rattle.program_defs.specs.Limits.{IsWithinLimits}
use Rattle.program_defs.specs.declared.script.Step.{Step}
use Rattle.program_defs.specs.declared.script.Step.TheVariants.{Visit, Reply}
use Rattle.program_defs.specs.declared.script.Request.{Request}
use Rattle.report_rules.specs.Lookups.{request_at}
use Rattle.report_rules.specs.Meetings.{is_transaction}
use Rattle.report_rules.specs.declared.report.StepAnswer.{StepAnswer}
use Rattle.weave_account.specs.Sessions.{requests_of_session}
use Rattle.step_rules.specs.CoreState.{CoreState}
use Rattle.step_rules.specs.Answers.{answer_of}
use Rattle.step_rules.specs.IsCore.{IsCore, IsStepOf, IsSmallIfDone}
use Rattle.step_rules.specs.Requests.{last_begun}
use Rattle.step_rules.specs.Trace.{is_ok, state_after}
use Rattle.vector_stamp.specs.declared.clock.Clock.{Clock}
use Rattle.weave_entries.specs.declared.oracle_log.OracleEntry.{OracleEntry}
use Rattle.weave_entries.specs.declared.store_log.StoreEntry.{StoreEntry}
use Rattle.weaver_core.specs.Sessions.{ClientTable, SessionValues, with_reply_at}
use Rattle.weaver_core.specs.GateTable.{GateTable}
use Rattle.weaver_core.specs.GivingReplies.{reply_of_change}
use Rattle.weaver_core.specs.ShardTable.{ShardTable}

-- the script, the logs and the notices
pub record CoreView : Type 0 where
  pub script : Script
  pub state : CoreState

-- the core did this step: its answer, its logs and its notices are those of the definition
pub record DoesStep (step : Step) (old new : CoreView) (answer : StepAnswer) : Type 0 where
  pub answer_is : answer ≡ answer_of old.script old.state step
  pub state_is : new.state ≡ state_after old.script old.state step
  pub script_is : new.script ≡ old.script

-- The machines of a core. No public contract cites what follows.

-- what the machines are made for: how many gatekeepers and shards there are, for how many gatekeepers each shard has
-- channels, and which requests each session has
pub record MachinesFrame : Type 0 where
  pub gates : ℕ
  pub shards : ℕ
  pub senders : ℕ
  pub requests : List (List ℕ)

-- the logs and notices of machines, what they are made for, and the values of the sessions
pub record MachinesView : Type 0 where
  pub frame : MachinesFrame
  pub state : CoreState
  pub values : List SessionValues

-- nothing but the values may differ
pub record AreSameMachines (old new : MachinesView) : Type 0 where
  pub frame : new.frame ≡ old.frame
  pub state : new.state ≡ old.state

-- they are made for the script
pub record IsFrameOf (script : Script) (frame : MachinesFrame) : Type 0 where
  pub gates : frame.gates ≡ script.gates
  pub shards : frame.shards ≡ script.shards
  pub senders : frame.senders ≡ script.gates
  pub requests : frame.requests ≡ map (requests_of_session script) (range_with_len 0 most_sessions)

-- machines that are a core of the script
pub record AreOf (script : Script) (machines : MachinesView) : Type 0 where
  pub limits : IsWithinLimits script
  pub frame : IsFrameOf script machines.frame
  pub core : IsCore script machines.state

-- the step is one of the machines alone: no visit, and no reply to a program
abbrev pub IsOfMachines : Script → Step → Type 0
IsOfMachines script (Visit r) = ⊥
IsOfMachines script (Reply r) = IsTrue (is_transaction script r)
IsOfMachines script _ = ⊤

-- machines of the script that can be given this step
pub record CanBeGiven (script : Script) (machines : MachinesView) (step : Step) : Type 0 where
  pub are : AreOf script machines
  pub there : IsStepOf script step
  pub alone : IsOfMachines script step

-- the machines did this step
pub record MachinesDo (script : Script) (step : Step) (old new : MachinesView) (answer : StepAnswer) : Type 0 where
  pub answer_is : answer ≡ answer_of script old.state step
  pub state_is : new.state ≡ state_after script old.state step
  pub frame_is : new.frame ≡ old.frame
  pub small : IsSmallIfDone script old.state step

-- machines of these parts
abbrev pub machines_of : GateTable → List StoreEntry → List OracleEntry → ShardTable → ClientTable → List Clock
    → MachinesView
machines_of gates store oracle shards clients notices = record {
  frame =
      record { gates = length gates.logs; shards = gates.shards; senders = shards.gates; requests = clients.requests };
  state = record {
    account =
        record { gates = gates.logs; store = store; oracle = oracle; shards = shards.logs; sessions = clients.logs };
    notices = notices;
  };
  values = clients.values;
}

-- The replies of transactions

-- the values after `reply` of a request of this session, by its answer
abbrev pub values_after_reply : MachinesView → ℕ → ℕ → StepAnswer → List SessionValues
values_after_reply old session r answer =
    if is_ok answer
    then with_reply_at old.values session
    (reply_of_change old.state.account.store (last_begun old.state.account session) r)
    else old.values

-- the values are those after `reply` of the script's request, a transaction
abbrev pub RepliesToChange : Script → ℕ → MachinesView → MachinesView → StepAnswer → Type 0
RepliesToChange script r old new answer =
    (request : Request) → request_at script r ≡ Some request
    → new.values ≡ values_after_reply old request.session r answer
