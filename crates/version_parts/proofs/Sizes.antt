-- A state has no more parts than there are items: each part that is there has an item at least.
-- Used by `items_are_placed`.
use Rattle.std.proofs.Common.{◌≡◌, ◌≤◌, ◌+◌, ℕ, Bool, true, false, cond, List, [], ◌∷◌, length, Option, Some, None, is_some, refl, ap, arith}
use Rattle.std.specs.Prelude.{nat_le}
use Rattle.std.specs.Option.{option_map, option_and_then}
use Rattle.std.proofs.lemmas.Bool.{leb-true}
use Rattle.weave_data.specs.declared.name.Name.{Name}
use Rattle.graph_ops.specs.declared.record.Edge.{Edge}
use Rattle.version_parts.specs.declared.edge.EdgeItems.{EdgeItems}
use Rattle.version_parts.specs.declared.lists.Lists.{Lists}
use Rattle.version_parts.specs.declared.time.Time.{Time}
use Rattle.version_parts.specs.declared.track.Item.{Item}
use Rattle.version_parts.specs.Counts.{total, count_items, count_edge, count_updates, size_of}
use Rattle.version_parts.specs.States.{Tracks, value_at, track_values_at, live_edge, edge_at, edges_at, record_at, state_at}
use Rattle.version_parts.specs.Times.{beginning}
use Rattle.version_parts.specs.Tracks.{or_else, last_at, shown_value, live_at}
use Rattle.version_parts.proofs.Counting.{of_option, total_less, total_ones, one_value}

at_most_one : {A : Type 0} (o : Option A) → of_option (λ (value : A). 1) o ≤ 1
at_most_one None = omega arith
at_most_one (Some value) = omega arith

-- a test that the update and those before it pass
module _ (update : ℕ) (test : ℕ → Bool) (passes : (other : ℕ) → other ≤ update → test other ≡ true) where
  module _ {X : Type 0} where
    some_counted : (items : List (Item X)) → is_some (last_at update items) ≡ true → 1 ≤ count_items test items
    some_counted [] some = absurd cc
    some_counted (item ∷ rest) some = by (some_counted rest) (last_at update rest) refl (nat_le item.time.update update) refl some
      where
        by : (is_some (last_at update rest) ≡ true → 1 ≤ count_items test rest) → (o : Option (Item X)) → last_at update rest ≡ o → (b : Bool) → nat_le item.time.update update ≡ b → is_some (or_else o (cond b (Some item) None)) ≡ true → 1 ≤ cond (test item.time.update) 1 0 + count_items test rest
        by counted (Some other) is b before some = let others = counted (ap is_some is) in omega (arith, others)
        by counted None is true before some =
            let one : cond {A = ℕ} (test item.time.update) 1 0 ≡ 1 = ap (λ b. cond b 1 0) (passes item.time.update (leb-true item.time.update update before)) in
            omega (arith, one)
        by counted None is false before some = absurd cc

    live_within : (since : Option Time) (items : List (Item X)) → of_option (λ (live : Time × X). 1) (live_at update since items) ≤ count_items test items
    live_within since items = by (last_at update items) refl
      where
        by : (o : Option (Item X)) → last_at update items ≡ o → of_option (λ (live : Time × X). 1) (option_and_then (shown_value since) o) ≤ count_items test items
        by None is = omega arith
        by (Some item) is =
            let one = at_most_one (shown_value since item) in
            let some = some_counted items (ap is_some is) in
            omega (arith, one, some)

  values_within : (since : Option Time) (tracks : Tracks) → length (track_values_at update since tracks) ≤ total (count_items test) tracks
  values_within since tracks =
      let less = total_less (λ (value : Name). 1) (value_at update since) (count_items test) (λ items.
      omega (arith, live_within since items, one_value (live_at update since items))) tracks in
      omega (arith, less, total_ones (track_values_at update since tracks))

  edge_within : (since : Option Time) (edge : EdgeItems) → of_option (λ (found : Edge). 1 + length found.tags) (edge_at update since edge) ≤ count_edge test edge
  edge_within since edge = by (live_at update since edge.targets) (live_within since edge.targets)
    where
      by : (o : Option (Time × Name)) → of_option (λ (live : Time × Name). 1) o ≤ count_items test edge.targets → of_option (λ (found : Edge). 1 + length found.tags) (option_map (live_edge update edge.tags) o) ≤ count_edge test edge
      by None within = omega arith
      by (Some live) within = let tags = values_within (Some live.0) edge.tags in omega (arith, within, tags)

  edges_within : (since : Option Time) (edges : List (Name × EdgeItems)) → total (λ (found : Edge). 1 + length found.tags) (edges_at update since edges) ≤ total (count_edge test) edges
  edges_within since edges = total_less (λ (found : Edge). 1 + length found.tags) (edge_at update since) (count_edge test) (edge_within since) edges

  -- the state after the update has at most as many parts as items pass the test
  pub size_within : (lists : Lists) → size_of (state_at update lists) ≤ count_updates test lists
  size_within lists = by (live_at update (Some beginning) lists.presence) (live_within (Some beginning) lists.presence)
    where
      by : (o : Option (Time × Unit {0})) → of_option (λ (live : Time × Unit {0}). 1) o ≤ count_items test lists.presence → size_of (option_map (λ (live : Time × Unit {0}). record_at update (Some live.0) lists) o) ≤ count_updates test lists
      by None within = omega arith
      by (Some live) within =
          let props = values_within (Some live.0) lists.props in
          let edges = edges_within (Some live.0) lists.edges in
          omega (arith, within, props, edges)
