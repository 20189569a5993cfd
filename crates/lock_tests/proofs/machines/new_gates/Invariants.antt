use Rattle.std.proofs.Common.{◌≡◌, ◌<◌, ℕ, slice_index_or, vec_len}
use Rattle.gatekeeper.specs.Gates.{GateView, IsNew}
use Rattle.lock_tests.proofs.machines.new_gates.Given as goal

abbrev pub invariant-loop-home : goal.invariant-loop-home
invariant-loop-home g l = record {
  count : vec_len l.made ≡ l.home;
  new : (k : ℕ) (d : GateView) → k < vec_len l.made → IsNew k l.fn.gates l.fn.shards (slice_index_or l.made.items k d);
}
