use Rattle.std.proofs.Common.{◌≡◌, map, take}
use Rattle.weave_data.specs.declared.name.Name.{Name}
use Rattle.backing_store.specs.Keeping.{count_held}
use Rattle.backing_store.proofs.lasts.counts_at.Given as goal

abbrev pub invariant-loop-name : goal.invariant-loop-name
invariant-loop-name l = l.counts ≡ map (λ (v : Name). record { vertex = v; before = count_held l.lasts.entries v }) (take l.name-index l.names)
