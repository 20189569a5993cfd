use Rattle.std.proofs.Common.{◌≡◌, ◌++◌, map, take, drop}
use Rattle.std.specs.List.{AllByRecursion}
use Rattle.weave_report.specs.TextOf.{IsTypedGot}
use Rattle.weave_text.specs.Lines.{lines_text}
use Rattle.weave_report.specs.ReportText.{got_line}
use Rattle.weave_report.proofs.print.reply.print_got_lines.Given as goal

abbrev pub invariant-loop-got : goal.invariant-loop-got
invariant-loop-got l = record {
  text : l.text ≡ l.initial.text ++ lines_text (map got_line (take l.got-index l.gots));
  typed : AllByRecursion IsTypedGot (drop l.got-index l.gots) → AllByRecursion IsTypedGot l.gots;
}
