use Rattle.std.proofs.Common.{◌≡◌}
use Rattle.std.specs.List.{IsDistinct}
use Rattle.std.specs.Map.{keys_of}
use Rattle.weave_data.specs.Names.{same_name}
use Rattle.weave_data.specs.Pairs.{at_key}
use Rattle.weave_data.specs.declared.name.Name.{Name}
use Rattle.graph_ops.proofs.States.{first_of}
use Rattle.graph_ops.proofs.graph.copy_slots.Given as goal

-- what is left, and then what is copied, is the table
abbrev pub invariant-loop-v : goal.invariant-loop-v
invariant-loop-v l = record { apart : IsDistinct same_name (keys_of l.v-iterator); states : (q : Name) → first_of (at_key q l.v-iterator) (at_key q l.copies.entries) ≡ at_key q l.slots.entries }
