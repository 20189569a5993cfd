use Rattle.std.proofs.Common.{◌≡◌, ◌≤◌, take, vec_capacity}
use Rattle.weave_data.proofs.name_map.copy_pairs.Given as goal

abbrev pub invariant-loop-key : goal.invariant-loop-key
invariant-loop-key g l = record { items : l.copies.items ≡ take l.key-index l.pairs; capacity : vec_capacity l.initial.copies ≤ vec_capacity l.copies }
