use Rattle.std.proofs.Common.{◌≡◌, ◌≤◌, ◌+◌, ◌++◌, ◌||◌, length, drop, vec_len, vec_capacity}
use Rattle.std.specs.HashSet.{spare}
use Rattle.weave_data.specs.declared.name.Name.{Name}
use Rattle.graph_ops.specs.Mentions.{is_among}
use Rattle.program_defs.specs.Searching.{has_name, new_names}
use Rattle.program_defs.proofs.NewNames.{targets_in}
use Rattle.program_defs.proofs.targets.look.Given as goal

abbrev pub invariant-loop-name : goal.invariant-loop-name
invariant-loop-name l = record {
  places : length (drop l._name-index l.vertex.edges) ≤ spare l.reached;
  room : vec_len l.found + length (drop l._name-index l.vertex.edges) ≤ vec_capacity l.found;
  found : l.found.items ++ new_names (has_name l.reached.keys) (targets_in l.pass (drop l._name-index l.vertex.edges)) ≡ l.initial.found.items ++ new_names (has_name l.initial.reached.keys) (targets_in l.pass l.vertex.edges);
  reached : (v : Name) → is_among (targets_in l.pass (drop l._name-index l.vertex.edges)) v || has_name l.reached.keys v ≡ is_among (targets_in l.pass l.vertex.edges) v || has_name l.initial.reached.keys v;
}
