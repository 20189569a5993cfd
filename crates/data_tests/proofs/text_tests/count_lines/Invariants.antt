use Rattle.std.proofs.Common.{◌+◌, ◌≤◌, length}
use Rattle.data_tests.proofs.text_tests.count_lines.Given as goal

-- each line has a byte of its own
abbrev pub invariant-loop-rest : goal.invariant-loop-rest
invariant-loop-rest l = l.count + length l.left ≤ length l.text

abbrev pub decreases-loop-rest : goal.decreases-loop-rest
decreases-loop-rest l = length l.left
