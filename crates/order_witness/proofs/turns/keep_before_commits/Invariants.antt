use Rattle.std.proofs.Common.{◌≡◌, ◌-◌, ◌≤◌, ℕ, false, IsTrue, length}
use Rattle.std.specs.Prelude.{slice_index_or}
use Rattle.order_witness.specs.Turns.{IsBeforeCommits}
use Rattle.order_witness.proofs.TurnSteps.{AreNumbersAbove}
use Rattle.order_witness.proofs.turns.keep_before_commits.Given as goal

abbrev pub invariant-loop-back : goal.invariant-loop-back
invariant-loop-back l = record {
  size : length l.marks.items ≡ length l.replies;
  lows : AreNumbersAbove l.script l.replies (length l.replies - l.back) l.lows;
  kept : (p : ℕ) → IsTrue (slice_index_or l.marks.items p false) → IsTrue (slice_index_or l.initial.marks.items p false);
  marked : (p : ℕ) → length l.replies - l.back ≤ p → IsTrue (slice_index_or l.marks.items p false) → IsBeforeCommits l.script l.replies p;
}
