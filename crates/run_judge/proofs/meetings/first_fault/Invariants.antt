use Rattle.std.proofs.Common.{◌≡◌, take}
use Rattle.weave_data.specs.Facts.{AllHold, facts_in_turn}
use Rattle.graph_ops.specs.Graphs.{plain_of}
use Rattle.graph_ops.specs.PlainGraph.{empty_graph}
use Rattle.order_witness.proofs.Replays.{graph_through}
use Rattle.run_judge.specs.Promises.{IsOrderedWhereMet}
use Rattle.run_judge.specs.Vertices.{AreKeptAtAll}
use Rattle.run_judge.proofs.meetings.first_fault.Given as goal

abbrev pub invariant-loop-place : goal.invariant-loop-place
invariant-loop-place l = record {
  facts : AllHold (facts_in_turn (IsOrderedWhereMet l.script l.report) (take l.place l.report.order));
  kept : AreKeptAtAll l.script l.report (take l.place l.report.order) l.vertices;
  graph_is : plain_of l.graph ≡ graph_through l.script l.report empty_graph (take l.place l.report.order);
}
