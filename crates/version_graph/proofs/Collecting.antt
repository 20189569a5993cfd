-- Chains in a table of which each was collected.
-- Used by `collect_all` and `collect_each`.
use Rattle.std.proofs.Common.{◌≡◌, ℕ, Bool, true, false, cond, List, map, Option, None, Some, refl, sym, ap, ◌∙◌}
use Rattle.std.specs.Prelude.{◌==◌}
use Rattle.std.specs.Map.{lookup}
use Rattle.std.specs.Option.{option_map}
use Rattle.std.proofs.lemmas.Map.Made.{lookup-map_values}
use Rattle.weave_data.specs.Names.{same_name}
use Rattle.weave_data.specs.declared.name.Name.{Name}
use Rattle.vector_stamp.specs.declared.clock.Clock.{Clock}
use Rattle.vector_stamp.specs.declared.clock.Stamp.{Stamp}
use Rattle.vector_stamp.specs.Precedence.{GivenPair}
use Rattle.version_chain.specs.Chains.{ChainView, update_count}
use Rattle.version_chain.specs.Collection.{collected_chain}
use Rattle.version_chain.specs.Views.{view_of}
use Rattle.version_graph.specs.Graphs.{Chains, chain_of, chain_or_new}
use Rattle.version_graph.specs.Tables.{with_updates, chain_at, chains_held}
use Rattle.version_graph.proofs.Chains.{seen_at}

module _ (bound : Clock) (same_count : (chain : ChainView) → update_count (collected_chain bound chain) ≡ update_count chain) where
  -- a chain has updates after a collection exactly if it had some before
  updates-stay : (chain : Option ChainView) → with_updates (option_map (collected_chain bound) chain) ≡ option_map (collected_chain bound) (with_updates chain)
  updates-stay None = refl
  updates-stay (Some chain) =
      ap (λ (n : ℕ). cond (n == 0) None (Some (collected_chain bound chain))) (same_count chain)
      ∙ by (update_count chain == 0)
    where
      by : (none : Bool) → cond none None (Some (collected_chain bound chain)) ≡ option_map (collected_chain bound) (cond none None (Some chain))
      by true = refl
      by false = refl

  -- after a collection of all slots, the table has at each vertex its chain collected
  pub collected-at : (before after : List (Name × ChainView)) → after ≡ map (λ (slot : Name × ChainView). (slot.0, collected_chain bound slot.1)) before → (v : Name) → chain_at v after ≡ option_map (collected_chain bound) (chain_at v before)
  collected-at before after is v =
      ap (chain_at v) is
      ∙ ap with_updates (lookup-map_values (collected_chain bound) (same_name v) before)
      ∙ updates-stay (lookup (same_name v) before)

-- and what the graph has
pub collected-graph : (bound : Clock) (before after : List (Name × ChainView)) (chains next : Chains) → chains_held before ≡ chains → chains_held after ≡ next → ((v : Name) → chain_at v after ≡ option_map (collected_chain bound) (chain_at v before)) → (v : Name) → chain_of next v ≡ option_map (collected_chain bound) (chain_of chains v)
collected-graph bound before after chains next view view_next is v =
    sym (seen_at after next view_next v) ∙ is v ∙ ap (option_map (collected_chain bound)) (seen_at before chains view v)

-- if a collection changes no view of a chain, it changes none of a vertex, present or not
pub views-stay : (bound : Clock) (pairs : List GivenPair) (program : Stamp) → ((chain : ChainView) → view_of pairs program (collected_chain bound chain) ≡ view_of pairs program chain) → (before after : Option ChainView) → after ≡ option_map (collected_chain bound) before → view_of pairs program (chain_or_new after) ≡ view_of pairs program (chain_or_new before)
views-stay bound pairs program same before after is = ap (λ (chain : Option ChainView). view_of pairs program (chain_or_new chain)) is ∙ by before
  where
    by : (chain : Option ChainView) → view_of pairs program (chain_or_new (option_map (collected_chain bound) chain)) ≡ view_of pairs program (chain_or_new chain)
    by None = refl
    by (Some chain) = same chain
