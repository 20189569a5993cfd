use Rattle.std.proofs.Common.{◌≡◌, length}
use Rattle.order_witness.specs.Turns.{IsAfterCommits, IsOfMarked}
use Rattle.order_witness.proofs.TurnSteps.{AreNumbersBelow}
use Rattle.order_witness.proofs.turns.after_commits.Given as goal

abbrev pub invariant-loop-place : goal.invariant-loop-place
invariant-loop-place l = record {
  size : length l.marks.items ≡ l.place;
  tops : AreNumbersBelow l.script l.replies l.place l.tops;
  marked : IsOfMarked (IsAfterCommits l.script l.replies) l.marks.items;
}
