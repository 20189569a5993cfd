use Rattle.std.proofs.Common.{◌≡◌, [], length}
use Rattle.weave_text.specs.Cutting.{lines_of}
use Rattle.store_journal.specs.Payloads.{ops_after}
use Rattle.store_journal.proofs.payload.ops_in.Given as goal

abbrev pub decreases-loop-line : goal.decreases-loop-line
decreases-loop-line l = length l.left

abbrev pub invariant-loop-line : goal.invariant-loop-line
invariant-loop-line l = ops_after l.fn.joins l.ops (lines_of l.left) ≡ ops_after l.fn.joins [] (lines_of l.fn.text)
