use Rattle.std.proofs.Common.{◌≡◌, ◌∷◌, ◌++◌, [], ℕ, List, nat_eq, sym, subst, ap, refl}
use Rattle.std.specs.Map.{lookup}
use Rattle.weave_data.specs.declared.name.Name.{Name}
use Rattle.graph_ops.specs.PlainGraph.{PlainGraph, empty_graph}
use Rattle.weave_entries.specs.declared.store_log.StoreEntry.{StoreEntry}
use Rattle.backing_store.specs.declared.lasts.KeptCommit.{KeptCommit}
use Rattle.backing_store.specs.Keeping.{held_at, IsStoreReplay}
use Rattle.backing_store.proofs.store.Store.new.Goals as goal

none_split : {A : Type 0} (before : List A) (x : A) (after : List A) → [] ≡ before ++ x ∷ after → ⊥
none_split [] x after is = cc
none_split (y ∷ before) x after is = cc

-- tables without entries and the empty graph are what the replay of an empty log gives
replay_of_none : (graph : PlainGraph) (lasts : List (Name × KeptCommit)) (places : List (ℕ × ℕ)) (log : List StoreEntry) → graph ≡ empty_graph → lasts ≡ [] → places ≡ [] → log ≡ [] → IsStoreReplay graph lasts 0 places log
replay_of_none graph lasts places log graph_is lasts_are places_are none =
    subst (λ (it : List StoreEntry). IsStoreReplay graph lasts 0 places it) (sym none) (record {
      graph_is = graph_is;
      lasts_are = λ v. ap (λ (table : List (Name × KeptCommit)). held_at table v) lasts_are;
      made_is = refl;
      places_are = λ one. ap (lookup (nat_eq one)) places_are;
      right = λ before entry after is. absurd (none_split before entry after is);
    })

pub invariant_of-result : goal.invariant_of-result
invariant_of-result c = replay_of_none _ _ _ _ c.new.ensures c.new-2.ensures.empty c.new-3.ensures.empty c.new-4.ensures.items

pub returns : goal.returns
returns c = c.new-4.ensures.items
