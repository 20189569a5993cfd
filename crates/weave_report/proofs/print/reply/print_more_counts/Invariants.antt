use Rattle.std.proofs.Common.{◌≡◌, ◌++◌, codes, map, take}
use Rattle.std.specs.Fmt.{decimal}
use Rattle.weave_text.specs.Lines.{marked_texts}
use Rattle.weave_report.proofs.print.reply.print_more_counts.Given as goal

abbrev pub invariant-loop-count : goal.invariant-loop-count
invariant-loop-count l = l.text ≡ l.initial.text ++ marked_texts (codes ",") (map decimal (take l.count-index l.counts))
