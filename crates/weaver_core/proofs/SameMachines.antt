-- Machines of which only the values of the sessions differ.
-- Used by `begin_change`, `begin_program`, `other_step`, `reply_to_change`, `reply_to_program`, `step`, `visit_with`
-- and VisitWith.
use Rattle.std.proofs.Common.{◌≡◌, ℕ, zero, suc, ◌<◌, List, [], ◌∷◌, length, Option, refl, sym, ap, subst, ◌∙◌}
use Rattle.std.specs.Prelude.{slice_set, Result, OnErr}
use Rattle.std.proofs.lemmas.List.{get_or-set_same, set-get_or}
use Rattle.weave_data.proofs.Results.{on_err_map}
use Rattle.program_defs.specs.declared.script.Script.{Script}
use Rattle.program_defs.specs.declared.script.Step.{Step}
use Rattle.report_rules.specs.declared.report.StepAnswer.{StepAnswer}
use Rattle.step_rules.specs.CoreState.{CoreState}
use Rattle.step_rules.specs.IsCore.{IsCore, IsSmallIfDone}
use Rattle.step_rules.specs.Answers.{answer_of}
use Rattle.step_rules.specs.Trace.{state_after}
use Rattle.weaver_core.specs.Sessions.{SessionValues, no_values, values_at, with_running}
use Rattle.weaver_core.specs.Cores.{AreOf, AreSameMachines, MachinesFrame, IsFrameOf, MachinesDo, MachinesView}
use Rattle.weaver_core.specs.declared.walks.Running.{Running}

-- of equal machines nothing but the values may differ
pub are-same : (old new : MachinesView) → new ≡ old → AreSameMachines old new
are-same old new is = record { frame = ap (λ (m : MachinesView). m.frame) is; state = ap (λ (m : MachinesView). m.state) is }

-- so if an error leaves the machines as they were, nothing but the values may differ after it
pub refused-same : {A E : Type 0} (result : Result A E) (old new : MachinesView) → OnErr result (new ≡ old) → OnErr result (AreSameMachines old new)
refused-same result old new h = on_err_map result (new ≡ old) (AreSameMachines old new) (are-same old new) h

-- if machines are of the script, others that have the same frame and state are, too
pub are-of-same : (script : Script) (old new : MachinesView) → AreSameMachines old new → AreOf script old → AreOf script new
are-of-same script old new same are = record {
  limits = are.limits;
  frame = subst (λ (frame : MachinesFrame). IsFrameOf script frame) (sym same.frame) are.frame;
  core = subst (IsCore script) (sym same.state) are.core;
}

-- if a step leads to some machines, it leads to any others that have the same frame and state
pub did-after : (script : Script) (step : Step) (old new then_new : MachinesView) (a : StepAnswer) → AreSameMachines new then_new → MachinesDo script step old new a → MachinesDo script step old then_new a
did-after script step old new then_new a same did = record {
  answer_is = did.answer_is;
  state_is = same.state ∙ did.state_is;
  frame_is = same.frame ∙ did.frame_is;
  small = did.small;
}

-- the same if it is before the step that only the values differ
pub did-before : (script : Script) (step : Step) (old other new : MachinesView) (a : StepAnswer) → AreSameMachines old other → MachinesDo script step other new a → MachinesDo script step old new a
did-before script step old other new a same did = record {
  answer_is = did.answer_is ∙ ap (λ (state : CoreState). answer_of script state step) same.state;
  state_is = did.state_is ∙ ap (λ (state : CoreState). state_after script state step) same.state;
  frame_is = did.frame_is ∙ same.frame;
  small = subst (λ (state : CoreState). IsSmallIfDone script state step) same.state did.small;
}

-- a program that was taken out and another that was put in
set-twice : {A : Type 0} (xs : List A) (i : ℕ) (x y : A) → slice_set (slice_set xs i x) i y ≡ slice_set xs i y
set-twice [] i x y = refl
set-twice (z ∷ xs) zero x y = refl
set-twice (z ∷ xs) (suc i) x y = ap (λ rest. z ∷ rest) (set-twice xs i x y)

-- putting one program into a session and then another is putting in the second
pub running-twice : (values : List SessionValues) (s : ℕ) (a b : Option Running) → s < length values → with_running (with_running values s a) s b ≡ with_running values s b
running-twice values s a b within =
    ap (λ (v : SessionValues). slice_set (with_running values s a) s (record { running = b; replies = v.replies })) (get_or-set_same values s (record { running = a; replies = (values_at values s).replies }) no_values within)
    ∙ set-twice values s (record { running = a; replies = (values_at values s).replies }) (record { running = b; replies = (values_at values s).replies })

-- putting in what was there changes nothing
pub running-back : (values : List SessionValues) (s : ℕ) → with_running values s (values_at values s).running ≡ values
running-back values s = set-get_or values s no_values
