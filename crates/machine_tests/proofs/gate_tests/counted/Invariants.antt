use Rattle.std.proofs.Common.{◌≡◌, map, take}
use Rattle.weave_entries.specs.declared.verdict.Counted.{Counted}
use Rattle.machine_tests.proofs.gate_tests.counted.Given as goal

abbrev pub invariant-loop-vertex : goal.invariant-loop-vertex
invariant-loop-vertex g l = map (λ (one : Counted). one.vertex) l.counts.items ≡ take l.vertex-index l.vertex-items
