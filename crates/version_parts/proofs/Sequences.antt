-- Items in order: an operation and a cut keep the order, and so a collection drops no item of a later update.
-- Used by `add_update`, `collect`, `cut` and Updating.
use Rattle.std.proofs.Common.{◌≡◌, ◌≤◌, ◌<◌, ◌+◌, ◌==◌, ℕ, Bool, true, false, not, ◌&&◌, cond, List, [], ◌∷◌, ◌++◌, filter, Option, Some, None, is_some, refl, ap, subst, arith}
use Rattle.std.specs.Prelude.{nat_le}
use Rattle.std.proofs.lemmas.Bool.{leb-true, and_parts, ne_eqb}
use Rattle.weave_data.specs.declared.name.Name.{Name}
use Rattle.weave_data.specs.Pairs.{at_key}
use Rattle.graph_ops.specs.declared.op.Op.{Op}
use Rattle.version_parts.specs.declared.cut.Cut.{Cut}
use Rattle.version_parts.specs.declared.cut.Cut.TheVariants.{Newer, Older}
use Rattle.version_parts.specs.declared.edge.EdgeItems.{EdgeItems}
use Rattle.version_parts.specs.declared.lists.Lists.{Lists}
use Rattle.version_parts.specs.declared.time.Time.{Time}
use Rattle.version_parts.specs.declared.track.Item.{Item}
use Rattle.version_parts.specs.Counts.{has_items, total, count_items, count_edge, count_updates}
use Rattle.version_parts.specs.Cuts.{left_items, cut_tracks, cut_edge, has_some, left_edge, cut_edges, cut_lists, collected_lists}
use Rattle.version_parts.specs.InOrder.{ItemsInOrder, TracksInOrder, EdgeInOrder, EdgesInOrder, ListsInOrder}
use Rattle.version_parts.specs.Placed.{AllInTracks, AllInEdge, AllInEdges, AllInLists}
use Rattle.version_parts.specs.States.{Tracks, items_or_none, with_item, edge_or_none, with_edge_item, with_item_of, with_op, WrittenItem, NoItem, OfVertex, OfProp, OfEdge, with_written, written_by}
use Rattle.version_parts.specs.Times.{beginning}
use Rattle.version_parts.specs.Tracks.{or_else, last_at, shown_value, since_at, from_oldest, cut_items, inner_cut, AllTimes}
use Rattle.version_parts.proofs.Counting.{with_total, left_count, left_edge_count}
use Rattle.version_parts.proofs.KeptLaws.{all_put, of_key}
use Rattle.version_parts.proofs.OneMore.{edge_before}
use Rattle.version_parts.proofs.Placing.{items_of, all_kept, left_is, cut_all}
use Rattle.version_parts.proofs.Pushing.{all_push}

-- One more operation

order_push : {X : Type 0} (items : List (Item X)) (item : Item X) → AllTimes (λ time. time.update ≤ item.time.update) items → ItemsInOrder items → ItemsInOrder (items ++ item ∷ [])
order_push [] item within order = (tt, tt)
order_push (first ∷ rest) item within order = (all_push (λ time. first.time.update ≤ time.update) rest item order.0 within.0, order_push rest item within.1 order.1)

order_at : (key : Name) (tracks : Tracks) → TracksInOrder tracks → ItemsInOrder (items_or_none (at_key key tracks))
order_at key tracks order =
    elim (at_key key tracks) as (λ (o : Option (List (Item Name))). at_key key tracks ≡ o → ItemsInOrder (items_or_none o)) [
      | None ↦ λ e. tt
      | Some items ↦ λ e. of_key key (λ (xs : List (Item Name)). ItemsInOrder xs) tracks items order e
    ] refl

edge_order_at : (name : Name) (edges : List (Name × EdgeItems)) → EdgesInOrder edges → EdgeInOrder (edge_or_none (at_key name edges))
edge_order_at name edges order =
    elim (at_key name edges) as (λ (o : Option EdgeItems). at_key name edges ≡ o → EdgeInOrder (edge_or_none o)) [
      | None ↦ λ e. (tt, tt)
      | Some edge ↦ λ e. of_key name EdgeInOrder edges edge order e
    ] refl

tracks_push : (key : Name) (item : Item Name) (tracks : Tracks) → AllInTracks (λ time. time.update ≤ item.time.update) tracks → TracksInOrder tracks → TracksInOrder (with_item key item tracks)
tracks_push key item tracks within order =
    all_put key (λ (xs : List (Item Name)). ItemsInOrder xs) (items_or_none (at_key key tracks) ++ item ∷ []) tracks
    (order_push (items_or_none (at_key key tracks)) item (items_of (λ time. time.update ≤ item.time.update) key tracks within) (order_at key tracks order)) order

edge_push : (tag : Option Name) (item : Item Name) (edge : EdgeItems) → AllInEdge (λ time. time.update ≤ item.time.update) edge → EdgeInOrder edge → EdgeInOrder (with_edge_item tag item edge)
edge_push None item edge within order = (order_push edge.targets item within.0 order.0, order.1)
edge_push (Some key) item edge within order = (order.0, tracks_push key item edge.tags within.1 order.1)

edges_push : (name : Name) (tag : Option Name) (item : Item Name) (edges : List (Name × EdgeItems)) → AllInEdges (λ time. time.update ≤ item.time.update) edges → EdgesInOrder edges → EdgesInOrder (with_item_of name tag item edges)
edges_push name tag item edges within order =
    let edge : EdgeItems = edge_or_none (at_key name edges) in
    all_put name EdgeInOrder (with_edge_item tag item edge) edges (edge_push tag item edge (edge_before (λ time. time.update ≤ item.time.update) name edges within) (edge_order_at name edges order)) order

written_push : (time : Time) (written : WrittenItem) (lists : Lists) → AllInLists (λ earlier. earlier.update ≤ time.update) lists → ListsInOrder lists → ListsInOrder (with_written time written lists)
written_push time NoItem lists within order = order
written_push time (OfVertex value) lists within order = (order_push lists.presence (record { time = time; value = value }) within.0 order.0, order.1, order.2)
written_push time (OfProp key value) lists within order = (order.0, tracks_push key (record { time = time; value = value }) lists.props within.1 order.1, order.2)
written_push time (OfEdge name tag value) lists within order = (order.0, order.1, edges_push name tag (record { time = time; value = value }) lists.edges within.2 order.2)

-- items in order, none of a later update than an operation's, are in order with the item of the operation
pub op_push : (time : Time) (op : Op) (lists : Lists) → AllInLists (λ earlier. earlier.update ≤ time.update) lists → ListsInOrder lists → ListsInOrder (with_op time op lists)
op_push time op lists within order = written_push time (written_by op) lists within order

-- A cut

module _ {X : Type 0} where
  items_cut : (cut : Cut) (items : List (Item X)) → ItemsInOrder items → ItemsInOrder (cut_items cut items)
  items_cut (Newer newest) [] order = tt
  items_cut (Newer newest) (item ∷ rest) order =
      let more : ItemsInOrder (filter (λ (x : Item X). nat_le x.time.update newest) rest) = items_cut (Newer newest) rest order.1 in
      let first : AllTimes (λ time. item.time.update ≤ time.update) (filter (λ (x : Item X). nat_le x.time.update newest) rest) =
      cut_all (λ time. item.time.update ≤ time.update) (λ time. item.time.update ≤ time.update) (Newer newest) (λ time holds left. holds) rest order.0 in
      elim (nat_le item.time.update newest) as (λ b. ItemsInOrder (cond b (item ∷ filter (λ (x : Item X). nat_le x.time.update newest) rest) (filter (λ (x : Item X). nat_le x.time.update newest) rest))) [
        | true ↦ (first, more)
        | false ↦ more
      ]
  items_cut (Older oldest since) [] order = tt
  items_cut (Older oldest since) (item ∷ rest) order =
      let more : ItemsInOrder (from_oldest oldest since rest) = items_cut (Older oldest since) rest order.1 in
      elim (is_some (last_at oldest rest)) as (λ b. ItemsInOrder (cond b (from_oldest oldest since rest) (cond (nat_le item.time.update oldest && not (is_some (shown_value since item))) rest (item ∷ rest)))) [
        | true ↦ more
        | false ↦ elim (nat_le item.time.update oldest && not (is_some (shown_value since item))) as (λ b. ItemsInOrder (cond b rest (item ∷ rest))) [
          | true ↦ order.1
          | false ↦ order
        ]
      ]

tracks_order : (cut : Cut) (tracks : Tracks) → TracksInOrder tracks → TracksInOrder (cut_tracks cut tracks)
tracks_order cut tracks order =
    all_kept (left_items cut) (λ (xs : List (Item Name)). ItemsInOrder xs) (λ (xs : List (Item Name)). ItemsInOrder xs) (λ items left holds is.
    subst (λ (xs : List (Item Name)). ItemsInOrder xs) (left_is (has_items (cut_items cut items)) (cut_items cut items) left is) (items_cut cut items holds)) tracks order

edges_order : (cut : Cut) (edges : List (Name × EdgeItems)) → EdgesInOrder edges → EdgesInOrder (cut_edges cut edges)
edges_order cut edges order =
    all_kept (left_edge cut) EdgeInOrder EdgeInOrder (λ edge left holds is.
    subst EdgeInOrder (left_is (has_some (cut_edge cut edge)) (cut_edge cut edge) left is)
    (items_cut cut edge.targets holds.0, tracks_order (inner_cut cut edge.targets) edge.tags holds.1)) edges order

-- a cut leaves items in order that were in order
pub lists_order : (cut : Cut) (lists : Lists) → ListsInOrder lists → ListsInOrder (cut_lists cut lists)
lists_order cut lists order = (
  items_cut cut lists.presence order.0,
  tracks_order (inner_cut cut lists.presence) lists.props order.1,
  edges_order (inner_cut cut lists.presence) lists.edges order.2,
)

-- Later updates

-- a test that the oldest update and those before it fail
module _ (test : ℕ → Bool) (oldest : ℕ) (fails : (update : ℕ) → update ≤ oldest → test update ≡ false) where
  not_counted : (update : ℕ) → update ≤ oldest → cond {A = ℕ} (test update) 1 0 ≡ 0
  not_counted update old = ap (λ b. cond b 1 0) (fails update old)

  module _ {X : Type 0} where
    old_before : (update : ℕ) (items : List (Item X)) → AllTimes (λ time. update ≤ time.update) items → is_some (last_at oldest items) ≡ true → update ≤ oldest
    old_before update [] after found = absurd cc
    old_before update (item ∷ rest) after found = by (old_before update rest after.1) (last_at oldest rest) refl (nat_le item.time.update oldest) refl found
      where
        by : (is_some (last_at oldest rest) ≡ true → update ≤ oldest) → (o : Option (Item X)) → last_at oldest rest ≡ o → (b : Bool) → nat_le item.time.update oldest ≡ b → is_some (or_else o (cond b (Some item) None)) ≡ true → update ≤ oldest
        by before (Some other) is b old found = before (ap is_some is)
        by before None is true old found = let first = after.0 in let within = leb-true item.time.update oldest old in omega (arith, first, within)
        by before None is false old found = absurd cc

    later_items : (since : Option Time) (items : List (Item X)) → ItemsInOrder items → count_items test (from_oldest oldest since items) ≡ count_items test items
    later_items since [] order = refl
    later_items since (item ∷ rest) order =
        let more : count_items test (from_oldest oldest since rest) ≡ count_items test rest = later_items since rest order.1 in
        elim (is_some (last_at oldest rest)) as (λ b. is_some (last_at oldest rest) ≡ b → count_items test (cond b (from_oldest oldest since rest) (cond (nat_le item.time.update oldest && not (is_some (shown_value since item))) rest (item ∷ rest))) ≡ cond (test item.time.update) 1 0 + count_items test rest) [
          | true ↦ λ e. let none = not_counted item.time.update (old_before item.time.update rest order.0 e) in omega (arith, none, more)
          | false ↦ λ e. elim (nat_le item.time.update oldest && not (is_some (shown_value since item))) as (λ b. (nat_le item.time.update oldest && not (is_some (shown_value since item))) ≡ b → count_items test (cond b rest (item ∷ rest)) ≡ cond (test item.time.update) 1 0 + count_items test rest) [
            | true ↦ λ gone.
                let both = and_parts (nat_le item.time.update oldest) (not (is_some (shown_value since item))) gone in
                let none = not_counted item.time.update (leb-true item.time.update oldest both.0) in
                omega (arith, none)
            | false ↦ λ stays. refl
          ] refl
        ] refl

  later_tracks : (since : Option Time) (tracks : Tracks) → TracksInOrder tracks → total (count_items test) (cut_tracks (Older oldest since) tracks) ≡ total (count_items test) tracks
  later_tracks since [] order = refl
  later_tracks since (pair ∷ rest) order =
      let more : total (count_items test) (cut_tracks (Older oldest since) rest) ≡ total (count_items test) rest = later_tracks since rest order.1 in
      let left = left_count test (from_oldest oldest since pair.1) in
      let here = later_items since pair.1 order.0 in
      omega (arith, more, left, here, with_total (count_items test) pair.0 (left_items (Older oldest since) pair.1) (cut_tracks (Older oldest since) rest))

  later_edges : (since : Option Time) (edges : List (Name × EdgeItems)) → EdgesInOrder edges → total (count_edge test) (cut_edges (Older oldest since) edges) ≡ total (count_edge test) edges
  later_edges since [] order = refl
  later_edges since (pair ∷ rest) order =
      let more : total (count_edge test) (cut_edges (Older oldest since) rest) ≡ total (count_edge test) rest = later_edges since rest order.1 in
      let left = left_edge_count test (from_oldest oldest since pair.1.targets) (cut_tracks (Older oldest (since_at oldest since pair.1.targets)) pair.1.tags) in
      let targets = later_items since pair.1.targets order.0.0 in
      let tags = later_tracks (since_at oldest since pair.1.targets) pair.1.tags order.0.1 in
      omega (arith, more, left, targets, tags, with_total (count_edge test) pair.0 (left_edge (Older oldest since) pair.1) (cut_edges (Older oldest since) rest))

  later_lists : (lists : Lists) → ListsInOrder lists → count_updates test (collected_lists oldest lists) ≡ count_updates test lists
  later_lists lists order =
      let presence = later_items (Some beginning) lists.presence order.0 in
      let props = later_tracks (since_at oldest (Some beginning) lists.presence) lists.props order.1 in
      let edges = later_edges (since_at oldest (Some beginning) lists.presence) lists.edges order.2 in
      omega (arith, presence, props, edges)

-- where items are in order, a collection drops none of an update after the oldest
pub later_stay : (oldest update : ℕ) (lists : Lists) → oldest < update → ListsInOrder lists → count_updates (λ other. other == update) (collected_lists oldest lists) ≡ count_updates (λ other. other == update) lists
later_stay oldest update lists later order = later_lists (λ other. other == update) oldest (λ other old. ne_eqb other update (λ same. omega (arith, later, old, same))) lists order
