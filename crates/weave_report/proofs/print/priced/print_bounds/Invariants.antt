use Rattle.std.proofs.Common.{◌≡◌, ◌++◌, map, drop}
use Rattle.std.specs.List.{AllByRecursion}
use Rattle.weave_report.specs.TextOf.{IsTypedBound}
use Rattle.weave_text.specs.Lines.{spaced_words}
use Rattle.weave_report.specs.ReportText.{bound_text}
use Rattle.weave_report.proofs.print.priced.print_bounds.Given as goal

abbrev pub invariant-loop-bound : goal.invariant-loop-bound
invariant-loop-bound l = record {
  text : l.text ++ spaced_words (map bound_text (drop l.bound-index l.bounds)) ≡ l.initial.text ++ spaced_words (map bound_text l.bounds);
  typed : AllByRecursion IsTypedBound (drop l.bound-index l.bounds) → AllByRecursion IsTypedBound l.bounds;
}
