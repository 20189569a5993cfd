-- The state before the first step is that of a core, and a step that isn't done leaves its state.
-- Used by `refused_steps_change_nothing`, `start_is_a_core`, `steps_keep_the_core`, FewSteps and Stepping.
use Rattle.std.proofs.Common.{◌≡◌, ◌≢◌, List, [], refl, ap}
use Rattle.std.specs.Prelude.{if◌then◌else◌}
use Rattle.std.proofs.lemmas.List.{length-replicate}
use Rattle.weave_data.proofs.Members.{has_none}
use Rattle.program_defs.specs.declared.script.Script.{Script}
use Rattle.report_rules.specs.declared.report.StepAnswer.{StepAnswer}
use Rattle.report_rules.specs.declared.report.StepAnswer.TheVariants.{Ok, Twice, Early, Busy, Idle, Old, Unknown, Repeat, Empty, Waits, Again}
use Rattle.weave_entries.specs.declared.session_log.SessionEntry.{SessionEntry}
use Rattle.weave_account.specs.IsAccount.{IsAccount}
use Rattle.weave_account.specs.NoLogs.{no_logs}
use Rattle.step_rules.specs.CoreState.{CoreState, start_state}
use Rattle.step_rules.specs.Trace.{is_ok}
use Rattle.step_rules.specs.IsCore.{IsCore}

-- if empty logs are an account, the state before the first step is that of a core
pub start-is-core : ((script : Script) → IsAccount script (no_logs script)) → (script : Script) → IsCore script (start_state script)
start-is-core empty script = record {
  account = empty script;
  sessions = length-replicate {A = List SessionEntry} 64 [];
  notices = λ clock h. absurd (has_none clock h);
}

-- a step that is done leaves the first of the states, any other the second
pub when-done : (answer : StepAnswer) (next state : CoreState) → answer ≡ Ok → (if is_ok answer then next else state) ≡ next
when-done answer next state is = ap (λ a. if is_ok a then next else state) is

-- a step that answers anything but `Ok` leaves the second of the states
pub when-refused : (answer : StepAnswer) (next state : CoreState) → answer ≢ Ok → (if is_ok answer then next else state) ≡ state
when-refused Ok next state not = absurd (not refl)
when-refused Twice next state not = refl
when-refused Early next state not = refl
when-refused Busy next state not = refl
when-refused Idle next state not = refl
when-refused Old next state not = refl
when-refused Unknown next state not = refl
when-refused Repeat next state not = refl
when-refused Empty next state not = refl
when-refused (Waits v) next state not = refl
when-refused (Again shard gate) next state not = refl
