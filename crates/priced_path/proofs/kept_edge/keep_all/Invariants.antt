use Rattle.std.proofs.Common.{◌≡◌, ◌≤◌, ◌+◌, ◌++◌, length, drop, vec_len, vec_capacity}
use Rattle.priced_path.specs.Kept.{as_kept}
use Rattle.program_defs.proofs.RowSteps.{passing_in}
use Rattle.priced_path.proofs.kept_edge.keep_all.Given as goal

abbrev pub invariant-loop-name : goal.invariant-loop-name
invariant-loop-name l = record {
  room : vec_len l.edges + length (drop l._name-index l.found.edges) ≤ vec_capacity l.edges;
  kept : l.edges.items ++ as_kept l.fn.v (passing_in l.fn.key (drop l._name-index l.found.edges)) ≡ l.initial.edges.items ++ as_kept l.fn.v (passing_in l.fn.key l.found.edges);
}
