use Rattle.std.proofs.Common.{◌≡◌, drop}
use Rattle.graph_ops.specs.VertexOps.{none_refused, state_after_ops}
use Rattle.machine_tests.proofs.passing.after_ops.Given as goal

abbrev pub invariant-loop-op : goal.invariant-loop-op
invariant-loop-op g l = (none_refused (drop l.op-index l.ops) l.state ≡ none_refused l.ops l.fn.state) × (state_after_ops (drop l.op-index l.ops) l.state ≡ state_after_ops l.ops l.fn.state)
