use Rattle.std.proofs.Common.{◌≡◌, []}
use Rattle.weave_report.specs.ReadingLists.{few_counts}
use Rattle.weave_report.proofs.read.stamp.counts_in.Given as goal

-- reading what is left gives the same as reading all
abbrev pub invariant-loop-word : goal.invariant-loop-word
invariant-loop-word l = few_counts l.counts l.word-iterator ≡ few_counts [] l.fn.words
