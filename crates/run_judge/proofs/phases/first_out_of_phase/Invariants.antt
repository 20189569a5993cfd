use Rattle.std.proofs.Common.{take}
use Rattle.program_defs.specs.declared.script.Script.{Script}
use Rattle.weave_data.specs.Facts.{AllHold, facts_of_each}
use Rattle.run_judge.specs.Phases.{CanJudgePhases}
use Rattle.run_judge.specs.Promises.{IsReplyInPhase}
use Rattle.run_judge.proofs.phases.first_out_of_phase.Given as goal

abbrev pub invariant-loop-place : goal.invariant-loop-place
invariant-loop-place l = (script : Script) → CanJudgePhases script l.report l.ways l.known → AllHold (facts_of_each (IsReplyInPhase script l.report) (take l.place l.reply-items))
