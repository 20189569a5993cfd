use Rattle.std.proofs.Common.{◌≡◌, Some, length}
use Rattle.graph_ops.specs.Graphs.{plain_of}
use Rattle.report_rules.specs.Replay.{graph_of_commits}
use Rattle.order_witness.proofs.MarkSteps.{AreSoFar}
use Rattle.order_witness.proofs.refusal_marks.marks_by_replay.Given as goal

abbrev pub invariant-loop-done : goal.invariant-loop-done
invariant-loop-done l = record {
  size : length l.marks.items ≡ length l.replies;
  graph : graph_of_commits l.script l.report l.done ≡ Some (plain_of l.graph);
  so_far : AreSoFar l.script l.report l.done l.marks.items;
}
