use Rattle.std.proofs.Common.{◌<◌, ◌≤◌, ℕ, IsTrue}
use Rattle.order_witness.specs.Begun.{is_request_before}
use Rattle.order_witness.specs.Heads.{item}
use Rattle.order_witness.specs.Marks.{AreMoreMarked, is_marked}
use Rattle.order_witness.proofs.walk.mark_run.Given as goal

abbrev pub invariant-loop-place : goal.invariant-loop-place
invariant-loop-place l = record {
  marked : (k : ℕ) → l.next ≤ k → k < l.place → IsTrue (is_marked l.marked (item l.line k));
  grown : AreMoreMarked (λ a. IsTrue (is_request_before l.report a l.request)) l.initial.marked l.marked l.initial.due.items l.due.items;
}
