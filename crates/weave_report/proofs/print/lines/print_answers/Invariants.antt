use Rattle.std.proofs.Common.{◌≡◌, ◌+◌, ◌++◌, drop, map}
use Rattle.std.specs.List.{AllByRecursion}
use Rattle.weave_report.specs.TextOf.{IsTypedStepAnswer}
use Rattle.std.specs.List.{enumerate_from}
use Rattle.weave_text.specs.Lines.{lines_text}
use Rattle.weave_report.specs.ReportText.{did_line}
use Rattle.weave_report.proofs.print.lines.print_answers.Given as goal

abbrev pub invariant-loop-index : goal.invariant-loop-index
invariant-loop-index l = record {
  text : l.text ++ lines_text (map did_line (enumerate_from (l.index + 1) (drop l.index l.answers))) ≡ l.initial.text ++ lines_text (map did_line (enumerate_from 1 l.answers));
  typed : AllByRecursion IsTypedStepAnswer (drop l.index l.answers) → AllByRecursion IsTypedStepAnswer l.answers;
}
