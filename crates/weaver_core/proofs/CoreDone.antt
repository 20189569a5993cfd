-- The machines of a script before the first step, and after each one.
-- Used by `new`, `start` and `step`.
use Rattle.std.proofs.Common.{◌≡◌, ℕ, zero, suc, List, [], length, replicate, map, refl, sym, ap, subst, ◌∙◌}
use Rattle.std.specs.Prelude.{slice_index_or}
use Rattle.std.specs.List.{range_with_len}
use Rattle.std.proofs.lemmas.List.{length-replicate}
use Rattle.std.proofs.lemmas.Option.{none-some}
use Rattle.vector_stamp.specs.declared.clock.Clock.{Clock}
use Rattle.program_defs.specs.Limits.{IsWithinLimits}
use Rattle.program_defs.specs.declared.script.Script.{Script}
use Rattle.program_defs.specs.declared.script.Step.{Step}
use Rattle.report_rules.specs.declared.report.StepAnswer.{StepAnswer}
use Rattle.weave_entries.specs.declared.oracle_log.OracleEntry.{OracleEntry}
use Rattle.weave_entries.specs.declared.store_log.StoreEntry.{StoreEntry}
use Rattle.weave_account.specs.declared.account.Account.{Account}
use Rattle.weave_account.specs.Sessions.{requests_of_session}
use Rattle.step_rules.specs.CoreState.{CoreState, start_state}
use Rattle.step_rules.specs.IsCore.{IsCore, IsSmallIfDone, IsStepOf}
use Rattle.step_rules.specs.Trace.{state_after}
use Rattle.weaver_core.specs.Sessions.{ClientTable, SessionValues, no_values}
use Rattle.weaver_core.specs.Cores.{AreOf, MachinesFrame, IsFrameOf, MachinesDo, MachinesView, machines_of}
use Rattle.weaver_core.specs.GateTable.{GateTable}
use Rattle.weaver_core.specs.ShardTable.{ShardTable}
use Rattle.weave_data.proofs.Members.{has_none}
use Rattle.weave_account.specs.Account.{session_log}
use Rattle.weave_entries.specs.declared.session_log.SessionEntry.{SessionEntry}
use Rattle.weaver_core.specs.Splitting.{AreAllByLog, AreValuesByLog}

-- Before the first step

module _ (script : Script) (limits : IsWithinLimits script) (start : IsCore script (start_state script))
    (gates : GateTable) (store : List StoreEntry) (oracle : List OracleEntry) (shards : ShardTable) (clients : ClientTable) (notices : List Clock)
    (gates-are : gates ≡ record { shards = script.shards; logs = replicate script.gates [] }) (store-is : store ≡ []) (oracle-is : oracle ≡ []) (shards-are : shards ≡ record { gates = script.gates; logs = replicate script.shards [] })
    (requests-are : clients.requests ≡ map (requests_of_session script) (range_with_len 0 64)) (logs-are : clients.logs ≡ replicate 64 []) (notices-are : notices ≡ []) where
  abbrev machines : MachinesView
  machines = machines_of gates store oracle shards clients notices

  -- the state of the machines is that before the first step
  pub start-is : machines.state ≡ start_state script
  start-is = λ i. record {
    account = record { gates = (gates-are i).logs; store = store-is i; oracle = oracle-is i; shards = (shards-are i).logs; sessions = logs-are i };
    notices = notices-are i;
  }

  -- the machines with which a core starts are of the script
  pub start-are : AreOf script machines
  start-are = record {
    limits = limits;
    frame = record {
      gates = ap (λ (g : GateTable). length g.logs) gates-are ∙ length-replicate script.gates [];
      shards = ap (λ (g : GateTable). g.shards) gates-are;
      senders = ap (λ (s : ShardTable). s.gates) shards-are;
      requests = requests-are;
    };
    core = subst (IsCore script) (sym start-is) start;
  }

-- After a step

-- the machines are still those of the script
pub are-after : (script : Script) (old new : MachinesView) (step : Step)
    → ((state : CoreState) (one : Step) → IsWithinLimits script → IsStepOf script one → IsSmallIfDone script state one → IsCore script state → IsCore script (state_after script state one))
    → AreOf script old → IsStepOf script step → (answer : StepAnswer) → MachinesDo script step old new answer → AreOf script new
are-after script old new step tried are there answer did = record {
  limits = are.limits;
  frame = subst (λ (frame : MachinesFrame). IsFrameOf script frame) (sym did.frame_is) are.frame;
  core = subst (IsCore script) (sym did.state_is) (tried old.state step are.limits there did.small are.core);
}

-- The values of the sessions before the first step

same-at : {A : Type 0} (n i : ℕ) (x : A) → slice_index_or (replicate n x) i x ≡ x
same-at zero i x = refl
same-at (suc n) zero x = refl
same-at (suc n) (suc i) x = same-at n i x

values-at-first : (script : Script) (account : Account) → AreValuesByLog script account [] no_values
values-at-first script account = record {
  running = record { waits = refl; fed = λ one at program look. absurd (none-some one at) };
  replies = record { requests = refl; each = λ reply has. absurd (has_none reply has) };
}

-- before the first step, values without programs and replies are those of the logs
pub values-of-start : (script : Script) (machines : MachinesView) → machines.state ≡ start_state script → machines.values ≡ replicate 64 no_values → AreAllByLog script machines.state.account machines.values
values-of-start script machines is values-are =
    subst (λ (state : CoreState). AreAllByLog script state.account machines.values) (sym is) (subst (λ (values : List SessionValues). AreAllByLog script (start_state script).account values) (sym values-are) (record {
      many = length-replicate 64 no_values;
      each = λ s below.
          subst (λ (v : SessionValues). AreValuesByLog script (start_state script).account (session_log (start_state script).account s) v) (sym (same-at 64 s no_values))
          (subst (λ (l : List SessionEntry). AreValuesByLog script (start_state script).account l no_values) (sym (same-at 64 s [])) (values-at-first script (start_state script).account));
    }))
