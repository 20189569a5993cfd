use Rattle.std.proofs.Common.{ℕ, IsTrue, take}
use Rattle.weave_data.specs.declared.name.Name.{Name}
use Rattle.graph_ops.specs.Mentions.{is_among}
use Rattle.order_witness.specs.Begun.{request_precedes}
use Rattle.run_judge.specs.Vertices.{IsComparedAt}
use Rattle.run_judge.proofs.vertices.first_unordered.Given as goal

abbrev pub invariant-loop-name : goal.invariant-loop-name
invariant-loop-name l = (v : Name) (e : ℕ) → IsTrue (is_among (take l.name-index l.names) v) → IsComparedAt l.vertices v l.changes e → IsTrue (request_precedes l.report e l.request)
