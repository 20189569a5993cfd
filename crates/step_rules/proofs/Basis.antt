-- What the lemmas on steps are given: a core, its script's limits, and the laws of the crates below.
-- Used by BeginStep, GateSteps, JudgeStep, NopStep, QuietSteps, ReplyStep, Replying, SendStep, ShardStep, Stepping,
-- VisitStep and Visiting.
use Rattle.program_defs.specs.declared.script.Script.{Script}
use Rattle.program_defs.specs.Limits.{IsWithinLimits}
use Rattle.step_rules.specs.CoreState.{CoreState}
use Rattle.step_rules.specs.IsCore.{IsCore}
use Rattle.step_rules.specs.LowerLaws.{LawsForSteps, FurtherLowerLaws}

-- a core of a script within its limits
pub record Basis (script : Script) (state : CoreState) : Type 0 where
  pub laws : LawsForSteps
  pub further : FurtherLowerLaws
  pub limits : IsWithinLimits script
  pub core : IsCore script state
