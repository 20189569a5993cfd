use Rattle.weave_drive.specs.Loops.{AnswersBelow}
use Rattle.weave_drive.proofs.answering.drive_all.Given as goal

abbrev pub invariant-loop-request : goal.invariant-loop-request
invariant-loop-request l = AnswersBelow l.fn.upto l.request l.fn.core l.core
