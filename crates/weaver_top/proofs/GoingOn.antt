-- While a core is driven its logs go on.
-- Used by Loaded and Onward.
use Rattle.std.proofs.Common.{ℕ, List, [], ◌∷◌, fold, sym, subst}
use Rattle.program_defs.specs.Limits.{IsWithinLimits}
use Rattle.program_defs.specs.declared.script.Script.{Script}
use Rattle.program_defs.specs.declared.script.Step.{Step}
use Rattle.step_rules.specs.CoreState.{CoreState}
use Rattle.step_rules.specs.IsCore.{IsCore, IsStepOf}
use Rattle.step_rules.specs.Trace.{state_after}
use Rattle.weave_account.specs.GoesOn.{GoesOn}
use Rattle.weave_drive.specs.Driving.{AreDriving, IsDriven}
use Rattle.step_rules.proofs.StepGoesOn.{goes-further, goes-same}

-- each step's logs go on
abbrev pub StepsGoOn : Type 0
StepsGoOn =
    (script : Script) (state : CoreState) (step : Step) → IsWithinLimits script → IsStepOf script step → IsCore script state
    → GoesOn state.account (state_after script state step).account

module _ (law : StepsGoOn) (script : Script) (limits : IsWithinLimits script) (upto : ℕ) where
  -- the logs of driving steps in turn go on
  pub steps-go-on : (steps : List Step) (state : CoreState) → IsCore script state → AreDriving script upto state steps
      → GoesOn state.account (fold (state_after script) state steps).account
  steps-go-on [] state core are = goes-same state.account
  steps-go-on (step ∷ steps) state core are =
      goes-further _ _ _ (law script state step limits are.1 core) (steps-go-on steps (state_after script state step) are.2 are.3)

  -- the logs of all driving steps together go on
  pub driven-on : (old new : CoreState) → IsCore script old → IsDriven script upto old new → GoesOn old.account new.account
  driven-on old new core driven =
      subst (λ (s : CoreState). GoesOn old.account s.account) (sym driven.is) (steps-go-on driven.steps old core driven.are)
