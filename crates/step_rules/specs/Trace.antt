-- What a list of atomic steps does: the fold of the steps from the empty logs.
use Rattle.std.specs.Prelude.{Bool, true, false, List, [], ◌∷◌, ◌++◌, fold, if◌then◌else◌}
use Rattle.program_defs.specs.declared.script.Script.{Script}
use Rattle.program_defs.specs.declared.script.Step.{Step}
use Rattle.report_rules.specs.declared.report.StepAnswer.{StepAnswer}
use Rattle.report_rules.specs.declared.report.StepAnswer.TheVariants.{Ok}
use Rattle.step_rules.specs.CoreState.{CoreState, start_state}
use Rattle.step_rules.specs.Answers.{answer_of}
use Rattle.step_rules.specs.Entries.{state_with}

-- the step was done
abbrev pub is_ok : StepAnswer → Bool
is_ok Ok = true
is_ok _ = false

-- the state after a step: a step that answers anything but `Ok` makes no entry and no notice
abbrev pub state_after : Script → CoreState → Step → CoreState
state_after script state step = if is_ok (answer_of script state step) then state_with script state step else state

-- what the steps answered so far, and the state that they left
pub record TraceState : Type 0 where
  pub answers : List StepAnswer
  pub state : CoreState

-- one more step
abbrev pub traced_after : Script → TraceState → Step → TraceState
traced_after script trace step = record {
  answers = trace.answers ++ answer_of script trace.state step ∷ [];
  state = state_after script trace.state step;
}

-- before the first step
abbrev pub trace_start : Script → TraceState
trace_start script = record { answers = []; state = start_state script }

-- the steps in their order, from the empty logs
abbrev pub trace_of : Script → List Step → TraceState
trace_of script steps = fold (traced_after script) (trace_start script) steps
