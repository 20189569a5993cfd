use Rattle.std.proofs.Common.{◌≡◌, []}
use Rattle.weave_report.specs.ReadingStates.{tags_in}
use Rattle.weave_report.proofs.read.record.tags_in.Given as goal

-- reading what is left gives the same as reading all
abbrev pub invariant-loop-word : goal.invariant-loop-word
invariant-loop-word l = tags_in l.tags l.word-iterator ≡ tags_in [] l.fn.words
