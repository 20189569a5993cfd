use Rattle.std.proofs.Common.{◌≡◌, length, take}
use Rattle.graph_ops.specs.Graphs.{plain_of}
use Rattle.graph_ops.specs.PlainGraph.{empty_graph}
use Rattle.order_witness.proofs.Replays.{AreReplayed}
use Rattle.order_witness.proofs.Visiting.{AreMarkedTo}
use Rattle.order_witness.proofs.replay.first_fault.Given as goal

abbrev pub invariant-loop-place : goal.invariant-loop-place
invariant-loop-place l = record {
  replayed : AreReplayed l.script l.report empty_graph (plain_of l.graph) (take l.place l.request-items);
  size : length l.marks.items ≡ length l.report.pairs;
  marked : AreMarkedTo l.script l.report (take l.place l.request-items) l.marks.items;
}
