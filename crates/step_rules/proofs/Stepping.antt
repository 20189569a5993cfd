-- Each step keeps a core, and so do all steps of a list.
-- Used by `steps_keep_the_core`, `trace_is_a_core`, DoneReplies and FewSteps.
use Rattle.std.proofs.Common.{◌≡◌, Bool, true, false, cond, List, [], ◌∷◌, refl}
use Rattle.std.specs.Prelude.{fold}
use Rattle.program_defs.specs.declared.script.Script.{Script}
use Rattle.program_defs.specs.declared.script.Step.{Step}
use Rattle.program_defs.specs.declared.script.Step.TheVariants.{Begin, Judge, Send, Say, Hear, Nop, Deliver, Apply, Visit, Reply, Collect, Epoch, Restart}
use Rattle.report_rules.specs.declared.report.StepAnswer.{StepAnswer}
use Rattle.report_rules.specs.declared.report.StepAnswer.TheVariants.{Ok, Twice, Early, Busy, Idle, Old, Unknown, Repeat, Empty, Waits, Again}
use Rattle.weave_account.specs.GoesOn.{GoesOn, IsBeginningOf}
use Rattle.weave_account.proofs.GoesOn.{whole}
use Rattle.program_defs.specs.Limits.{IsWithinLimits}
use Rattle.step_rules.specs.CoreState.{CoreState}
use Rattle.step_rules.specs.Answers.{answer_of}
use Rattle.step_rules.specs.Entries.{state_with}
use Rattle.step_rules.specs.Trace.{TraceState, is_ok, state_after, trace_of, trace_start, traced_after}
use Rattle.step_rules.specs.IsCore.{AreSteps, IsCore, IsSmall, IsSmallIfDone, IsStepOf}
use Rattle.step_rules.specs.LowerLaws.{LawsForSteps, FurtherLowerLaws}
use Rattle.step_rules.proofs.Basis.{Basis}
use Rattle.step_rules.proofs.BeginStep.{begin-keeps}
use Rattle.step_rules.proofs.GateSteps.{epoch-keeps, hear-keeps, say-keeps}
use Rattle.step_rules.proofs.JudgeStep.{judge-keeps}
use Rattle.step_rules.proofs.NopStep.{nop-keeps}
use Rattle.step_rules.proofs.QuietSteps.{apply-keeps, collect-keeps, deliver-keeps}
use Rattle.step_rules.proofs.Replying.{reply-keeps}
use Rattle.step_rules.proofs.SendStep.{send-keeps}
use Rattle.step_rules.proofs.Starting.{start-is-core}
use Rattle.step_rules.proofs.StepGoesOn.{goes-same, notices-on, step-goes-on}
use Rattle.step_rules.proofs.Visiting.{visit-keeps}

-- an answer that is tested as `Ok` is `Ok`
pub ok-is : (answer : StepAnswer) → is_ok answer ≡ true → answer ≡ Ok
ok-is Ok e = refl
ok-is Twice e = cc
ok-is Early e = cc
ok-is Busy e = cc
ok-is Idle e = cc
ok-is Old e = cc
ok-is Unknown e = cc
ok-is Repeat e = cc
ok-is Empty e = cc
ok-is (Waits v) e = cc
ok-is (Again s g) e = cc

module _ (laws : LawsForSteps) (further : FurtherLowerLaws) (script : Script) (limits : IsWithinLimits script) where
  abbrev basis-of : (state : CoreState) → IsCore script state → Basis script state
  basis-of state core = record { laws = laws; further = further; limits = limits; core = core }

  -- a step that is done keeps a core
  pub each-step-keeps : (state : CoreState) (step : Step) → IsStepOf script step → IsSmall script state step → IsCore script state → answer_of script state step ≡ Ok → IsCore script (state_with script state step)
  each-step-keeps state (Begin r) range small core ok = begin-keeps script state (basis-of state core) r small ok
  each-step-keeps state (Judge g) range small core ok = judge-keeps script state (basis-of state core) g range ok
  each-step-keeps state (Send g) range small core ok = send-keeps script state (basis-of state core) g range ok
  each-step-keeps state (Say g) range small core ok = say-keeps script state (basis-of state core) g range
  each-step-keeps state (Hear g n) range small core ok = hear-keeps script state (basis-of state core) g n range.0 ok
  each-step-keeps state (Nop g s) range small core ok = nop-keeps script state (basis-of state core) g s range.0 range.1 ok
  each-step-keeps state (Deliver g s n) range small core ok = deliver-keeps script state (basis-of state core) g s n range.0 range.1 ok
  each-step-keeps state (Apply s g) range small core ok = apply-keeps script state (basis-of state core) s g range.0 ok
  each-step-keeps state (Visit r) range small core ok = visit-keeps script state (basis-of state core) r ok
  each-step-keeps state (Reply r) range small core ok = reply-keeps script state (basis-of state core) r ok
  each-step-keeps state (Collect s) range small core ok = collect-keeps script state (basis-of state core) s range
  each-step-keeps state (Epoch g epoch) range small core ok = epoch-keeps script state (basis-of state core) g epoch range.0 ok
  each-step-keeps state (Restart g epoch) range small core ok = epoch-keeps script state (basis-of state core) g epoch range.0 ok

  -- whatever a step answers, it keeps a core
  pub step-keeps : (state : CoreState) (step : Step) → IsStepOf script step → IsSmallIfDone script state step → IsCore script state → IsCore script (state_after script state step)
  step-keeps state step range small core = at (is_ok (answer_of script state step)) refl
    where
      at : (b : Bool) → is_ok (answer_of script state step) ≡ b → IsCore script (cond b (state_with script state step) state)
      at true e = let ok = ok-is (answer_of script state step) e in each-step-keeps state step range (small ok) core ok
      at false e = core

  -- all steps of a list
  steps-keep : (trace : TraceState) (steps : List Step) → AreSteps script trace.state steps → IsCore script trace.state → IsCore script (fold (traced_after script) trace steps).state
  steps-keep trace [] are core = core
  steps-keep trace (step ∷ steps) are core = steps-keep (traced_after script trace step) steps are.2 (step-keeps trace.state step are.0 are.1 core)

  -- steps of the script with small stamps, one after another from the empty logs, leave a core
  pub trace-is-core : (steps : List Step) → AreSteps script (trace_start script).state steps → IsCore script (trace_of script steps).state
  trace-is-core steps are = steps-keep (trace_start script) steps are (start-is-core laws.accounts.empty script)

-- whatever a step answers, the logs begin with those before it
pub step-goes : (script : Script) (state : CoreState) (step : Step) → IsWithinLimits script → IsStepOf script step → IsCore script state → GoesOn state.account (state_after script state step).account
step-goes script state step limits range core = at (is_ok (answer_of script state step))
  where
    at : (b : Bool) → GoesOn state.account (cond b (state_with script state step) state).account
    at true = step-goes-on script state limits core step range
    at false = goes-same state.account

-- after a step, the notices begin with those before it
pub notices-go : (script : Script) (state : CoreState) (step : Step) → IsBeginningOf state.notices (state_after script state step).notices
notices-go script state step = at (is_ok (answer_of script state step))
  where
    at : (b : Bool) → IsBeginningOf state.notices (cond b (state_with script state step) state).notices
    at true = notices-on state step
    at false = whole state.notices
