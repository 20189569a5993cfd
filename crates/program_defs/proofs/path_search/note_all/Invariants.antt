use Rattle.std.proofs.Common.{◌≡◌, ◌≤◌, ◌+◌, ◌++◌, length, drop, vec_len, vec_capacity}
use Rattle.program_defs.specs.LeastWalks.{hops_from}
use Rattle.program_defs.proofs.NewNames.{targets_in}
use Rattle.program_defs.proofs.path_search.note_all.Given as goal

abbrev pub invariant-loop-name : goal.invariant-loop-name
invariant-loop-name l = record {
  room : vec_len l.hops + length (drop l._name-index l.found.edges) ≤ vec_capacity l.hops;
  len : vec_len l.hops + length (drop l._name-index l.found.edges) ≤ vec_len l.initial.hops + length l.found.edges;
  hops : l.hops.items ++ hops_from l.fn.v l.fn.rank (targets_in l.pass (drop l._name-index l.found.edges)) ≡ l.initial.hops.items ++ hops_from l.fn.v l.fn.rank (targets_in l.pass l.found.edges);
}
