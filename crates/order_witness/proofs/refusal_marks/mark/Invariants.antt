use Rattle.std.proofs.Common.{◌≡◌, length, take}
use Rattle.graph_ops.specs.Graphs.{plain_of}
use Rattle.order_witness.proofs.Marking.{AreMarkedAt, AreKeptOrSet}
use Rattle.order_witness.proofs.refusal_marks.mark.Given as goal

abbrev pub invariant-loop-place : goal.invariant-loop-place
invariant-loop-place l = record {
  graph : l.graph ≡ l.initial.graph;
  size : length l.marks.items ≡ length l.initial.marks.items;
  marked : AreMarkedAt l.script (plain_of l.initial.graph) l.after l.replies l.initial.marks.items (take l.place-index l.places) l.marks.items;
  either : AreKeptOrSet l.script (plain_of l.initial.graph) l.after l.replies l.initial.marks.items l.marks.items;
}
