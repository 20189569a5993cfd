use Rattle.std.proofs.Common.{◌≡◌, ◌++◌, map, take, drop}
use Rattle.std.specs.List.{AllByRecursion}
use Rattle.report_rules.specs.declared.report.Pair.{Pair}
use Rattle.weave_report.specs.TextOf.{IsName}
use Rattle.weave_text.specs.Lines.{lines_text}
use Rattle.weave_report.specs.ReportText.{pair_line}
use Rattle.weave_report.proofs.print.lines.print_pairs.Given as goal

abbrev pub invariant-loop-pair : goal.invariant-loop-pair
invariant-loop-pair l = record {
  text : l.text ≡ l.initial.text ++ lines_text (map (pair_line l.script) (take l.pair-index l.pairs));
  typed : AllByRecursion (λ (pair : Pair). IsName pair.vertex) (drop l.pair-index l.pairs) → AllByRecursion (λ (pair : Pair). IsName pair.vertex) l.pairs;
}
