use Rattle.std.proofs.Common.{◌≡◌}
use Rattle.weave_report.specs.ReadingStates.{empty_record, items_in}
use Rattle.weave_report.proofs.read.record.items_in.Given as goal

-- reading what is left gives the same as reading all
abbrev pub invariant-loop-word : goal.invariant-loop-word
invariant-loop-word l = items_in l.held l.word-iterator ≡ items_in empty_record l.fn.words
