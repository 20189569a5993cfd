use Rattle.std.proofs.Common.{◌≡◌, ◌++◌, ◌+◌, drop}
use Rattle.report_rules.specs.ReportOf.{numbers_of_gets}
use Rattle.weave_report.proofs.read.named.numbers_of_gets.Given as goal

-- the numbers so far, and then those of the operations that are left
abbrev pub invariant-loop-index : goal.invariant-loop-index
invariant-loop-index l = l.gets ++ numbers_of_gets (l.index + 1) (drop l.index l.ops) ≡ numbers_of_gets 1 l.ops
