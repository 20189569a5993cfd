-- When the items were added: what operations and cuts keep, and what follows of states and counts.
-- Used by `add_op`, `add_update`, `collect`, `items_are_placed`, `take_back`, AddingUp, Sequences and Updating.
use Rattle.std.proofs.Common.{◌≡◌, ◌≤◌, ◌+◌, ℕ, Bool, true, false, not, ◌&&◌, cond, List, [], ◌∷◌, ◌++◌, filter, Option, Some, None, is_some, refl, sym, ap, ◌∙◌, subst, arith}
use Rattle.std.specs.Prelude.{nat_le}
use Rattle.std.specs.List.{AllByRecursion}
use Rattle.std.specs.Option.{option_map, option_and_then}
use Rattle.std.proofs.lemmas.Bool.{leb-true}
use Rattle.weave_data.specs.declared.name.Name.{Name}
use Rattle.weave_data.specs.Pairs.{at_key}
use Rattle.graph_ops.specs.declared.op.Op.{Op}
use Rattle.version_parts.specs.declared.cut.Cut.{Cut}
use Rattle.version_parts.specs.declared.cut.Cut.TheVariants.{Newer, Older}
use Rattle.version_parts.specs.declared.edge.EdgeItems.{EdgeItems}
use Rattle.version_parts.specs.declared.lists.Lists.{Lists}
use Rattle.version_parts.specs.declared.time.Time.{Time}
use Rattle.version_parts.specs.declared.track.Item.{Item}
use Rattle.version_parts.specs.Counts.{has_items, total, count_items, count_edge, count_updates}
use Rattle.version_parts.specs.Cuts.{left_items, cut_tracks, cut_edge, has_some, left_edge, cut_edges, cut_lists, lists_until, collected_lists}
use Rattle.version_parts.specs.KeptValues.{with_value, kept_values}
use Rattle.version_parts.specs.Placed.{AllInTracks, AllInEdge, AllInEdges, AllInLists, AreUpTo}
use Rattle.version_parts.specs.States.{Tracks, value_at, track_values_at, live_edge, edge_at, edges_at, record_at, state_at, items_or_none, with_item, edge_or_none, with_edge_item, with_item_of, with_op, WrittenItem, NoItem, OfVertex, OfProp, OfEdge, with_written, written_by}
use Rattle.version_parts.specs.Times.{beginning}
use Rattle.version_parts.specs.Tracks.{or_else, last_at, shown_value, live_at, from_oldest, cut_items, inner_cut, AllTimes}
use Rattle.version_parts.proofs.KeptLaws.{all_put, of_key, kept_agree}
use Rattle.version_parts.proofs.OneMore.{edge_before, made_edge, made_record}
use Rattle.version_parts.proofs.Pushing.{all_weaker, all_push}
use Rattle.version_parts.proofs.Splitting.{in_time}

-- One more operation

module _ (P : Time → Type 0) where
  -- what holds of all times of lists by name holds of those at a key
  pub items_of : (key : Name) (tracks : Tracks) → AllInTracks P tracks → AllTimes P (items_or_none (at_key key tracks))
  items_of key tracks all =
      elim (at_key key tracks) as (λ (o : Option (List (Item Name))). at_key key tracks ≡ o → AllTimes P (items_or_none o)) [
        | None ↦ λ e. tt
        | Some items ↦ λ e. of_key key (AllTimes P) tracks items all e
      ] refl

  tracks_put : (key : Name) (item : Item Name) (tracks : Tracks) → AllInTracks P tracks → P item.time → AllInTracks P (with_item key item tracks)
  tracks_put key item tracks all here =
      all_put key (AllTimes P) (items_or_none (at_key key tracks) ++ item ∷ []) tracks (all_push P (items_or_none (at_key key tracks)) item (items_of key tracks all) here) all

  edge_put : (tag : Option Name) (item : Item Name) (edge : EdgeItems) → AllInEdge P edge → P item.time → AllInEdge P (with_edge_item tag item edge)
  edge_put None item edge all here = (all_push P edge.targets item all.0 here, all.1)
  edge_put (Some key) item edge all here = (all.0, tracks_put key item edge.tags all.1 here)

  edges_put : (name : Name) (tag : Option Name) (item : Item Name) (edges : List (Name × EdgeItems)) → AllInEdges P edges → P item.time → AllInEdges P (with_item_of name tag item edges)
  edges_put name tag item edges all here =
      let edge : EdgeItems = edge_or_none (at_key name edges) in
      all_put name (AllInEdge P) (with_edge_item tag item edge) edges (edge_put tag item edge (edge_before P name edges all) here) all

  all_written : (time : Time) (written : WrittenItem) (lists : Lists) → AllInLists P lists → P time → AllInLists P (with_written time written lists)
  all_written time NoItem lists all here = all
  all_written time (OfVertex value) lists all here = (all_push P lists.presence (record { time = time; value = value }) all.0 here, all.1, all.2)
  all_written time (OfProp key value) lists all here = (all.0, tracks_put key (record { time = time; value = value }) lists.props all.1 here, all.2)
  all_written time (OfEdge name tag value) lists all here = (all.0, all.1, edges_put name tag (record { time = time; value = value }) lists.edges all.2 here)

  -- what holds of all times of a vertex and of a new time still holds with the item of an operation at that time
  pub all_op : (time : Time) (op : Op) (lists : Lists) → AllInLists P lists → P time → AllInLists P (with_op time op lists)
  all_op time op lists all here = all_written time (written_by op) lists all here

-- A weaker fact

module _ (P Q : Time → Type 0) (weaker : (time : Time) → P time → Q time) where
  -- what follows from a fact that holds of all times of properties or tags holds of them all too
  pub tracks_weaker : (tracks : Tracks) → AllInTracks P tracks → AllInTracks Q tracks
  tracks_weaker [] all = tt
  tracks_weaker (pair ∷ rest) all = (all_weaker P Q weaker pair.1 all.0, tracks_weaker rest all.1)

  -- the same of the times of an edge
  pub edge_weaker : (edge : EdgeItems) → AllInEdge P edge → AllInEdge Q edge
  edge_weaker edge all = (all_weaker P Q weaker edge.targets all.0, tracks_weaker edge.tags all.1)

  -- the same of the times of all edges
  pub edges_weaker : (edges : List (Name × EdgeItems)) → AllInEdges P edges → AllInEdges Q edges
  edges_weaker [] all = tt
  edges_weaker (pair ∷ rest) all = (edge_weaker pair.1 all.0, edges_weaker rest all.1)

  -- the same of all times of a vertex
  pub lists_weaker : (lists : Lists) → AllInLists P lists → AllInLists Q lists
  lists_weaker lists all = (all_weaker P Q weaker lists.presence all.0, tracks_weaker lists.props all.1, edges_weaker lists.edges all.2)

module _ (P : Time → Type 0) (always : (time : Time) → P time) where
  all_items : {X : Type 0} (items : List (Item X)) → AllTimes P items
  all_items [] = tt
  all_items (item ∷ rest) = (always item.time, all_items rest)

  all_tracks : (tracks : Tracks) → AllInTracks P tracks
  all_tracks [] = tt
  all_tracks (pair ∷ rest) = (all_items pair.1, all_tracks rest)

  all_edges : (edges : List (Name × EdgeItems)) → AllInEdges P edges
  all_edges [] = tt
  all_edges (pair ∷ rest) = ((all_items pair.1.targets, all_tracks pair.1.tags), all_edges rest)

  -- what is true of every time holds of all times of a vertex
  pub all_lists : (lists : Lists) → AllInLists P lists
  all_lists lists = (all_items lists.presence, all_tracks lists.props, all_edges lists.edges)

-- A cut

-- what a cut says of the times that it leaves
abbrev pub IsLeftBy : Cut → Time → Type 0
IsLeftBy (Newer newest) time = time.update ≤ newest
IsLeftBy (Older oldest since) time = Unit {0}

inner_left : {X : Type 0} (cut : Cut) (items : List (Item X)) (time : Time) → IsLeftBy (inner_cut cut items) time → IsLeftBy cut time
inner_left (Newer newest) items time left = left
inner_left (Older oldest since) items time left = tt

-- what holds of each value that is left of one of which another fact holds is true of all that are left
pub all_kept : {A B : Type 0} (h : A → Option B) (P : A → Type 0) (Q : B → Type 0) → ((value : A) (left : B) → P value → h value ≡ Some left → Q left) → (es : List (Name × A)) → AllByRecursion (λ (pair : Name × A). P pair.1) es → AllByRecursion (λ (pair : Name × B). Q pair.1) (kept_values h es)
all_kept h P Q step [] all = tt
all_kept {A} {B} h P Q step (e ∷ es) all =
    let rest : AllByRecursion (λ (pair : Name × B). Q pair.1) (kept_values h es) = all_kept h P Q step es all.1 in
    elim (h e.1) as (λ (o : Option B). h e.1 ≡ o → AllByRecursion (λ (pair : Name × B). Q pair.1) (with_value e.0 o (kept_values h es))) [
      | None ↦ λ is. rest
      | Some left ↦ λ is. (step e.1 left all.0 is, rest)
    ] refl

-- what is left of a value that stays is the value
pub left_is : {A : Type 0} (b : Bool) (value left : A) → cond b (Some value) None ≡ Some left → value ≡ left
left_is true value left is = cc
left_is false value left is = absurd cc

module _ (P Q : Time → Type 0) where
  -- what follows from a fact of all times of a list, and from what a cut says of those it leaves, is true of these
  pub cut_all : {X : Type 0} (cut : Cut) → ((time : Time) → P time → IsLeftBy cut time → Q time) → (items : List (Item X)) → AllTimes P items → AllTimes Q (cut_items cut items)
  cut_all (Newer newest) keeps [] all = tt
  cut_all {X} (Newer newest) keeps (item ∷ rest) all =
      let more : AllTimes Q (filter (λ (x : Item X). nat_le x.time.update newest) rest) = cut_all (Newer newest) keeps rest all.1 in
      elim (nat_le item.time.update newest) as (λ b. nat_le item.time.update newest ≡ b → AllTimes Q (cond b (item ∷ filter (λ (x : Item X). nat_le x.time.update newest) rest) (filter (λ (x : Item X). nat_le x.time.update newest) rest))) [
        | true ↦ λ e. (keeps item.time all.0 (leb-true item.time.update newest e), more)
        | false ↦ λ e. more
      ] refl
  cut_all (Older oldest since) keeps [] all = tt
  cut_all {X} (Older oldest since) keeps (item ∷ rest) all =
      let more : AllTimes Q (from_oldest oldest since rest) = cut_all (Older oldest since) keeps rest all.1 in
      let same : AllTimes Q rest = all_weaker P Q (λ time holds. keeps time holds tt) rest all.1 in
      elim (is_some (last_at oldest rest)) as (λ b. AllTimes Q (cond b (from_oldest oldest since rest) (cond (nat_le item.time.update oldest && not (is_some (shown_value since item))) rest (item ∷ rest)))) [
        | true ↦ more
        | false ↦ elim (nat_le item.time.update oldest && not (is_some (shown_value since item))) as (λ b. AllTimes Q (cond b rest (item ∷ rest))) [
          | true ↦ same
          | false ↦ (keeps item.time all.0 tt, same)
        ]
      ]

  tracks_cut : (cut : Cut) → ((time : Time) → P time → IsLeftBy cut time → Q time) → (tracks : Tracks) → AllInTracks P tracks → AllInTracks Q (cut_tracks cut tracks)
  tracks_cut cut keeps tracks all =
      all_kept (left_items cut) (AllTimes P) (AllTimes Q) (λ items left holds is.
      subst (AllTimes Q) (left_is (has_items (cut_items cut items)) (cut_items cut items) left is) (cut_all cut keeps items holds)) tracks all

  edges_cut : (cut : Cut) → ((time : Time) → P time → IsLeftBy cut time → Q time) → (edges : List (Name × EdgeItems)) → AllInEdges P edges → AllInEdges Q (cut_edges cut edges)
  edges_cut cut keeps edges all =
      all_kept (left_edge cut) (AllInEdge P) (AllInEdge Q) (λ edge left holds is.
      subst (AllInEdge Q) (left_is (has_some (cut_edge cut edge)) (cut_edge cut edge) left is)
      (cut_all cut keeps edge.targets holds.0, tracks_cut (inner_cut cut edge.targets) (λ time p in_cut. keeps time p (inner_left cut edge.targets time in_cut)) edge.tags holds.1)) edges all

  -- what follows from a fact of all times, and from what a cut says of those it leaves, holds of those it leaves
  pub lists_cut : (cut : Cut) → ((time : Time) → P time → IsLeftBy cut time → Q time) → (lists : Lists) → AllInLists P lists → AllInLists Q (cut_lists cut lists)
  lists_cut cut keeps lists all = (
    cut_all cut keeps lists.presence all.0,
    tracks_cut (inner_cut cut lists.presence) (λ time p in_cut. keeps time p (inner_left cut lists.presence time in_cut)) lists.props all.1,
    edges_cut (inner_cut cut lists.presence) (λ time p in_cut. keeps time p (inner_left cut lists.presence time in_cut)) lists.edges all.2,
  )

-- when the items after an update are dropped, all items are of it or of those before it
pub until_within : (newest : ℕ) (lists : Lists) → AreUpTo newest (lists_until newest lists)
until_within newest lists = lists_cut (λ time. Unit {0}) (λ time. time.update ≤ newest) (Newer newest) (λ time any left. left) lists (all_lists (λ time. Unit {0}) (λ time. tt) lists)

-- if all items are of the newest update or those before it, so are the ones that a collection leaves
pub collected_within : (oldest newest : ℕ) (lists : Lists) → AreUpTo newest lists → AreUpTo newest (collected_lists oldest lists)
collected_within oldest newest lists within = lists_cut (λ time. time.update ≤ newest) (λ time. time.update ≤ newest) (Older oldest (Some beginning)) (λ time p left. p) lists within

-- After the newest update nothing changes

module _ (newest update : ℕ) (past : newest ≤ update) where
  last_past : {X : Type 0} (items : List (Item X)) → AllTimes (λ time. time.update ≤ newest) items → last_at update items ≡ last_at newest items
  last_past [] all = refl
  last_past {X} (item ∷ rest) all =
      let more : last_at update rest ≡ last_at newest rest = last_past rest all.1 in
      let within = all.0 in
      let here = in_time update item (omega (arith, within, past)) ∙ sym (in_time newest item within) in
      λ i. or_else (more i) (here i)

  live_past : {X : Type 0} (since : Option Time) (items : List (Item X)) → AllTimes (λ time. time.update ≤ newest) items → live_at update since items ≡ live_at newest since items
  live_past since items all = ap (option_and_then (shown_value since)) (last_past items all)

  all_past : (since : Option Time) (tracks : Tracks) → AllInTracks (λ time. time.update ≤ newest) tracks → AllByRecursion (λ (pair : Name × List (Item Name)). value_at update since pair.1 ≡ value_at newest since pair.1) tracks
  all_past since [] all = tt
  all_past since (pair ∷ rest) all = (ap (option_map (λ (live : Time × Name). live.1)) (live_past since pair.1 all.0), all_past since rest all.1)

  values_past : (since : Option Time) (tracks : Tracks) → AllInTracks (λ time. time.update ≤ newest) tracks → track_values_at update since tracks ≡ track_values_at newest since tracks
  values_past since tracks all = kept_agree (value_at update since) (value_at newest since) tracks (all_past since tracks all)

  edge_past : (since : Option Time) (edge : EdgeItems) → AllInEdge (λ time. time.update ≤ newest) edge → edge_at update since edge ≡ edge_at newest since edge
  edge_past since edge all =
      ap (option_map (live_edge update edge.tags)) (live_past since edge.targets all.0)
      ∙ elim (live_at newest since edge.targets) as (λ (o : Option (Time × Name)). option_map (live_edge update edge.tags) o ≡ option_map (live_edge newest edge.tags) o) [
        | None ↦ refl
        | Some live ↦ ap (λ (tags : List (Name × Name)). Some (made_edge live.1 tags)) (values_past (Some live.0) edge.tags all.1)
      ]

  all_edges_past : (since : Option Time) (edges : List (Name × EdgeItems)) → AllInEdges (λ time. time.update ≤ newest) edges → AllByRecursion (λ (pair : Name × EdgeItems). edge_at update since pair.1 ≡ edge_at newest since pair.1) edges
  all_edges_past since [] all = tt
  all_edges_past since (pair ∷ rest) all = (edge_past since pair.1 all.0, all_edges_past since rest all.1)

  edges_past : (since : Option Time) (edges : List (Name × EdgeItems)) → AllInEdges (λ time. time.update ≤ newest) edges → edges_at update since edges ≡ edges_at newest since edges
  edges_past since edges all = kept_agree (edge_at update since) (edge_at newest since) edges (all_edges_past since edges all)

  -- if no item is of an update after the newest one, the state after a later update is the one after the newest
  pub state_past : (lists : Lists) → AreUpTo newest lists → state_at update lists ≡ state_at newest lists
  state_past lists all =
      ap (option_map (λ (live : Time × Unit {0}). record_at update (Some live.0) lists)) (live_past (Some beginning) lists.presence all.0)
      ∙ elim (live_at newest (Some beginning) lists.presence) as (λ (o : Option (Time × Unit {0})). option_map (λ (live : Time × Unit {0}). record_at update (Some live.0) lists) o ≡ option_map (λ (live : Time × Unit {0}). record_at newest (Some live.0) lists) o) [
        | None ↦ refl
        | Some live ↦
            let props : track_values_at update (Some live.0) lists.props ≡ track_values_at newest (Some live.0) lists.props = values_past (Some live.0) lists.props all.1 in
            let edges : edges_at update (Some live.0) lists.edges ≡ edges_at newest (Some live.0) lists.edges = edges_past (Some live.0) lists.edges all.2 in
            λ i. Some (made_record (props i) (edges i))
      ]

-- Tests that agree on all updates

module _ (test other : ℕ → Bool) where
  items_agree : {X : Type 0} (items : List (Item X)) → AllTimes (λ time. test time.update ≡ other time.update) items → count_items test items ≡ count_items other items
  items_agree [] all = refl
  items_agree (item ∷ rest) all =
      let more : count_items test rest ≡ count_items other rest = items_agree rest all.1 in
      λ i. cond (all.0 i) 1 0 + more i

  tracks_agree : (tracks : Tracks) → AllInTracks (λ time. test time.update ≡ other time.update) tracks → total (count_items test) tracks ≡ total (count_items other) tracks
  tracks_agree [] all = refl
  tracks_agree (pair ∷ rest) all =
      let here : count_items test pair.1 ≡ count_items other pair.1 = items_agree pair.1 all.0 in
      let more : total (count_items test) rest ≡ total (count_items other) rest = tracks_agree rest all.1 in
      λ i. here i + more i

  edges_agree : (edges : List (Name × EdgeItems)) → AllInEdges (λ time. test time.update ≡ other time.update) edges → total (count_edge test) edges ≡ total (count_edge other) edges
  edges_agree [] all = refl
  edges_agree (pair ∷ rest) all =
      let targets : count_items test pair.1.targets ≡ count_items other pair.1.targets = items_agree pair.1.targets all.0.0 in
      let tags : total (count_items test) pair.1.tags ≡ total (count_items other) pair.1.tags = tracks_agree pair.1.tags all.0.1 in
      let more : total (count_edge test) rest ≡ total (count_edge other) rest = edges_agree rest all.1 in
      λ i. (targets i + tags i) + more i

  -- two tests that agree on the updates of all items of a vertex count as many of them
  pub counts_agree : (lists : Lists) → AllInLists (λ time. test time.update ≡ other time.update) lists → count_updates test lists ≡ count_updates other lists
  counts_agree lists all =
      let presence : count_items test lists.presence ≡ count_items other lists.presence = items_agree lists.presence all.0 in
      let props : total (count_items test) lists.props ≡ total (count_items other) lists.props = tracks_agree lists.props all.1 in
      let edges : total (count_edge test) lists.edges ≡ total (count_edge other) lists.edges = edges_agree lists.edges all.2 in
      λ i. presence i + (props i + edges i)
