-- The table in which a graph keeps its chains: a chain may be left there without updates, if a part was taken back. No
-- public contract cites this.
use Rattle.std.specs.Prelude.{◌≡◌, All, ◌≤◌, ◌==◌, length, List, [], ◌∷◌, Option, None, Some, if◌then◌else◌}
use Rattle.std.specs.FinMap as map
use Rattle.std.specs.Map.{lookup}
use Rattle.weave_data.specs.Names.{same_name}
use Rattle.weave_data.specs.declared.name.Name.{Name}
use Rattle.graph_ops.specs.declared.part.Part.{Part}
use Rattle.vector_stamp.specs.declared.clock.Stamp.{Stamp}
use Rattle.version_chain.specs.Chains.{ChainView, update_count, KeepsOne}
use Rattle.version_graph.specs.Graphs.{Chains, chain_or_new, after_parts}

-- a chain, if it has updates
abbrev pub with_updates : Option ChainView → Option ChainView
with_updates None = None
with_updates (Some chain) = if update_count chain == 0 then None else Some chain

-- the chain with updates that a table has at a vertex
abbrev pub chain_at : Name → List (Name × ChainView) → Option ChainView
chain_at v table = with_updates (lookup (same_name v) table)

-- the finite map with this chain at a vertex, or without the vertex
abbrev pub with_chain : Name → Option ChainView → Chains → Chains
with_chain v None chains = map.remove chains v
with_chain v (Some chain) chains = map.insert chains v chain

-- the finite map of a table
abbrev pub chains_held : List (Name × ChainView) → Chains
chains_held [] = map.empty
chains_held (slot ∷ rest) = with_chain slot.0 (with_updates (Some slot.1)) (chains_held rest)

-- the chain has a newest update that can be taken back
abbrev pub HasNewest : Option ChainView → Type 0
HasNewest None = ⊥
HasNewest (Some chain) = (1 ≤ length chain.kept) × (1 ≤ chain.dropped → 2 ≤ length chain.kept)

-- the first chain at this vertex, and the second at any other
abbrev pub at_vertex : Name → Name → Option ChainView → Option ChainView → Option ChainView
at_vertex vertex v here other = if same_name vertex v then here else other

-- parts were applied to the chains that a table had before, of which each kept a version if others were dropped
pub record WereApplied (stamp : Stamp) (parts : List Part) (before now : List (Name × ChainView)) : Type 0 where
  pub applied : (v : Name) → chain_at v now ≡ after_parts stamp v (chain_at v before) parts
  pub base : All (λ (part : Part). KeepsOne (chain_or_new (chain_at part.vertex before))) parts
