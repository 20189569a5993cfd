use Rattle.std.proofs.Common.{◌≡◌, [], drop, map}
use Rattle.weave_report.specs.ReadingFields.{names_from}
use Rattle.weave_report.proofs.read.priced.names_of.Given as goal

-- reading what is left gives the same as reading all
abbrev pub invariant-loop-word : goal.invariant-loop-word
invariant-loop-word l = names_from l.names (drop l.word-index (map (λ word. word.now) l.words)) ≡ names_from [] (map (λ word. word.now) l.words)
