use Rattle.std.proofs.Common.{◌≡◌, ◌≤◌, ◌+◌, length, take}
use Rattle.indexmap.specs.IndexMap.{spare}
use Rattle.weave_data.specs.declared.name.Name.{Name}
use Rattle.backing_store.specs.Keeping.{held_at, held_after}
use Rattle.backing_store.proofs.lasts.put_lasts.Given as goal

abbrev pub invariant-loop-counted : goal.invariant-loop-counted
invariant-loop-counted l = record {
  room : length l.counts ≤ spare l.lasts + l.counted-index;
  held : (v : Name) → held_at l.lasts.entries v ≡ held_after l.request l.stamp (take l.counted-index l.counts) v (held_at l.initial.lasts.entries v);
}
