-- The chains of a shard as contracts see them: a finite map from names to chains, with those alone that have updates.
use Rattle.std.specs.Prelude.{◌≢◌, ℕ, List, fold, Option, None, Some, All, AllPairs, refl, if◌then◌else◌}
use Rattle.std.specs.Coded.{Coded, code_by, coded×, coded_ℕ, coded_list, coded_option}
use Rattle.std.specs.FinMap as map
use Rattle.std.specs.FinMap.{FinMap}
use Rattle.weave_data.specs.Names.{name_cmp, same_name}
use Rattle.weave_data.specs.declared.name.Name.{Name}
use Rattle.graph_ops.specs.Codes.{coded_record}
use Rattle.graph_ops.specs.declared.record.Record.{Record}
use Rattle.graph_ops.specs.declared.part.Part.{Part}
use Rattle.vector_stamp.specs.declared.clock.Stamp.{Stamp}
use Rattle.version_chain.specs.declared.version.Version.{Version}
use Rattle.version_chain.specs.Chains.{ChainView, no_updates, with_update, IsNextUpdate}

-- a finite map from names to chains
abbrev pub Chains : Type 0
Chains = FinMap name_cmp ChainView

-- the chain of a vertex, if it has updates
abbrev pub chain_of : Chains → Name → Option ChainView
chain_of chains v = map.get chains v

-- a chain, without updates if there is none
abbrev pub chain_or_new : Option ChainView → ChainView
chain_or_new None = no_updates
chain_or_new (Some chain) = chain

-- a vertex's chain after a part: one more update if the part is of that vertex
abbrev pub after_part : Stamp → Name → Option ChainView → Part → Option ChainView
after_part stamp v chain part =
    if same_name part.vertex v then Some (with_update stamp part.ops (chain_or_new chain)) else chain

-- and after parts, one after another
abbrev pub after_parts : Stamp → Name → Option ChainView → List Part → Option ChainView
after_parts stamp v chain parts = fold (after_part stamp v) chain parts

-- each part is of a vertex of its own, and its operations are the next update there
pub record AreNextUpdates (chains : Chains) (parts : List Part) : Type 0 where
  pub apart : AllPairs (λ (one other : Part). one.vertex ≢ other.vertex) parts
  pub next : All (λ (part : Part). IsNextUpdate (chain_or_new (chain_of chains part.vertex)) part.before part.ops) parts

-- By which values chains are told apart

abbrev pub coded_stamp : Coded Stamp
coded_stamp =
    code_by (ℕ × (ℕ
    × List ℕ)) (coded× coded_ℕ (coded× coded_ℕ (coded_list coded_ℕ))) (λ s. (s.home, (s.clock.epoch, s.clock.counts)))
    (λ p. record { home = p.0; clock = record { epoch = p.1.0; counts = p.1.1 } }) (λ _. refl)

abbrev pub coded_version : Coded Version
coded_version =
    code_by (Stamp
    × Option Record) (coded× coded_stamp (coded_option coded_record)) (λ v. (v.stamp, v.state))
    (λ p. record { stamp = p.0; state = p.1 }) (λ _. refl)

abbrev pub coded_chain : Coded ChainView
coded_chain =
    code_by (ℕ × List Version) (coded× coded_ℕ (coded_list coded_version)) (λ c. (c.dropped, c.kept))
    (λ p. record { dropped = p.0; kept = p.1 }) (λ _. refl)
