use Rattle.std.proofs.Common.{◌≡◌, []}
use Rattle.weave_report.specs.ReadingFields.{names_from}
use Rattle.weave_report.proofs.read.fields.names_in.Given as goal

-- reading what is left gives the same as reading all
abbrev pub invariant-loop-word : goal.invariant-loop-word
invariant-loop-word l = names_from l.names l.word-iterator ≡ names_from [] l.fn.words
