use Rattle.std.proofs.Common.{◌≡◌, take}
use Rattle.weave_data.specs.declared.name.Name.{Name}
use Rattle.weave_entries.specs.Sending.{ops_on}
use Rattle.gatekeeper.specs.Parts.{ops_at}
use Rattle.gatekeeper.proofs.parts.ops_by_vertex.Given as goal

abbrev pub invariant-loop-op : goal.invariant-loop-op
invariant-loop-op l = (vertex : Name) → ops_at vertex l.table.entries ≡ ops_on vertex (take l.op-index l.ops)
