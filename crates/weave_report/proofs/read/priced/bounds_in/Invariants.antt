use Rattle.std.proofs.Common.{◌≡◌, [], None, drop, map}
use Rattle.weave_report.specs.ReadingPriced.{bounds_from}
use Rattle.weave_report.proofs.read.priced.bounds_in.Given as goal

-- reading what is left gives the same as reading all
abbrev pub invariant-loop-word : goal.invariant-loop-word
invariant-loop-word l = bounds_from l.bounds l.last (drop l.word-index (map (λ word. word.now) l.words)) ≡ bounds_from [] None (map (λ word. word.now) l.words)
