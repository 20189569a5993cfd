use Rattle.std.proofs.Common.{◌≡◌}
use Rattle.weave_report.specs.Reading.{order_in}
use Rattle.weave_report.specs.ReadingLists.{order_from}
use Rattle.weave_report.proofs.read.lines.order_in.Given as goal

-- reading what is left gives the same as reading all
abbrev pub invariant-loop-word : goal.invariant-loop-word
invariant-loop-word l = order_from l.script l.order l.word-iterator ≡ order_in l.script l.fn.words
