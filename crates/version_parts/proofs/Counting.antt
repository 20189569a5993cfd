-- How many items there are after an operation, and after a cut.
-- Used by `collect`, `count_edge`, `count_edge_pairs`, `count_of`, `count_pairs`, `cut`, `take_back`, Sequences, Sizes
-- and Updating.
use Rattle.std.proofs.Common.{◌≡◌, ◌≤◌, ◌<◌, ◌+◌, ℕ, Bool, true, false, not, ◌&&◌, ◌||◌, cond, List, [], ◌∷◌, ◌++◌, filter, length, drop, get_or, drop-cons, add-one, Option, Some, None, is_some, IfSome, refl, sym, ap, ◌∙◌, subst, arith}
use Rattle.std.specs.Prelude.{nat_le}
use Rattle.std.specs.declared.cmp.Ordering.TheVariants.{Less, Equal, Greater}
use Rattle.std.specs.Map.{keys_of}
use Rattle.std.specs.Option.{option_map, option_and_then}
use Rattle.std.specs.Ordering.{match_ordering, is_eq}
use Rattle.std.proofs.lemmas.Map.Keys.{sorted_tail}
use Rattle.weave_data.specs.declared.name.Name.{Name}
use Rattle.weave_data.specs.Names.{name_cmp}
use Rattle.weave_data.specs.Pairs.{IsRising, at_key, put}
use Rattle.graph_ops.specs.declared.op.Op.{Op}
use Rattle.graph_ops.specs.declared.record.Edge.{Edge}
use Rattle.version_parts.specs.declared.cut.Cut.{Cut}
use Rattle.version_parts.specs.declared.cut.Cut.TheVariants.{Newer, Older}
use Rattle.version_parts.specs.declared.edge.EdgeItems.{EdgeItems}
use Rattle.version_parts.specs.declared.lists.Lists.{Lists}
use Rattle.version_parts.specs.declared.time.Time.{Time}
use Rattle.version_parts.specs.declared.track.Item.{Item}
use Rattle.version_parts.specs.Counts.{has_items, total, count_items, count_edge, count_updates, changes_of, size_of}
use Rattle.version_parts.specs.Cuts.{left_items, cut_tracks, cut_edge, left_edge, cut_edges, cut_lists, lists_until, collected_lists}
use Rattle.version_parts.specs.KeptValues.{with_value, kept_values}
use Rattle.version_parts.specs.Ordered.{TagsRise, KeysRise, KeysRiseFor}
use Rattle.version_parts.specs.States.{Tracks, value_at, track_values_at, live_edge, edge_at, edges_at, record_at, state_at, items_or_none, with_item, edge_or_none, with_edge_item, with_item_of, with_op, WrittenItem, NoItem, OfVertex, OfProp, OfEdge, with_written, written_by}
use Rattle.version_parts.specs.Times.{beginning}
use Rattle.version_parts.specs.Tracks.{or_else, unless_later, last_at, shown_value, live_at, since_at, from_oldest, cut_items, inner_cut}
use Rattle.version_parts.proofs.KeptLaws.{none_above, above_less}
use Rattle.version_parts.proofs.OneMore.{items_of_written, one_item}

-- the number of a value, 0 if there is none
abbrev pub of_option : {A : Type 0} → (A → ℕ) → Option A → ℕ
of_option f None = 0
of_option f (Some value) = f value

-- Totals

module _ {A : Type 0} (f : A → ℕ) where
  -- where keys rise, a put adds the number of the new value to the total and takes off that of the old one
  pub total_put : (key : Name) (value : A) (es : List (Name × A)) → IsRising es → total f (put key value es) + of_option f (at_key key es) ≡ total f es + f value
  total_put key value [] rising = omega arith
  total_put key value (e ∷ es) rising =
      elim (name_cmp key e.0) as (λ o. name_cmp key e.0 ≡ o → total f (match_ordering o ((key, value) ∷ e ∷ es) ((e.0, value) ∷ es) (e ∷ put key value es)) + of_option f (cond (is_eq o) (Some e.1) (at_key key es)) ≡ total f (e ∷ es) + f value) [
        | Less ↦ λ less. let none : of_option f (at_key key es) ≡ 0 = ap (of_option f) (none_above key es (above_less key e es rising less).1) in omega (arith, none)
        | Equal ↦ λ equal. omega arith
        | Greater ↦ λ greater. let rest = total_put key value es (sorted_tail name_cmp e.0 (keys_of es) rising) in omega (arith, rest)
      ] refl

  -- a value that is there adds its number to the total
  pub with_total : (key : Name) (value : Option A) (es : List (Name × A)) → total f (with_value key value es) ≡ of_option f value + total f es
  with_total key None es = omega arith
  with_total key (Some value) es = refl

module _ {A B : Type 0} (f : B → ℕ) (h : A → Option B) where
  -- if what is left of each value has the number that `g` gives the value, the total left is the total of `g`
  pub total_kept : (g : A → ℕ) → ((value : A) → of_option f (h value) ≡ g value) → (es : List (Name × A)) → total f (kept_values h es) ≡ total g es
  total_kept g same [] = refl
  total_kept g same (e ∷ es) =
      let rest = total_kept g same es in
      let here = same e.1 in
      omega (arith, rest, here, with_total f e.0 (h e.1) (kept_values h es))

  -- if what is left of each value has at most the number that `g` gives the value, so have the totals
  pub total_less : (g : A → ℕ) → ((value : A) → of_option f (h value) ≤ g value) → (es : List (Name × A)) → total f (kept_values h es) ≤ total g es
  total_less g less [] = omega arith
  total_less g less (e ∷ es) =
      let rest = total_less g less es in
      let here = less e.1 in
      omega (arith, rest, here, with_total f e.0 (h e.1) (kept_values h es))

  -- if one function leaves of each value at most as much as another does, the same is true of the totals
  pub totals_less : {C : Type 0} (g : C → ℕ) (v : A → Option C) → ((value : A) → of_option f (h value) ≤ of_option g (v value)) → (es : List (Name × A)) → total f (kept_values h es) ≤ total g (kept_values v es)
  totals_less g v less [] = omega arith
  totals_less g v less (e ∷ es) =
      let rest = totals_less g v less es in
      let here = less e.1 in
      omega (arith, rest, here, with_total f e.0 (h e.1) (kept_values h es), with_total g e.0 (v e.1) (kept_values v es))

-- counting one for each value gives the number of values
pub total_ones : {A : Type 0} (es : List (Name × A)) → total (λ (value : A). 1) es ≡ length es
total_ones [] = refl
total_ones (e ∷ es) = let rest = total_ones es in omega (arith, rest)

-- the total from a place on is the number of the element there and the total from the next place
pub total_split : {A : Type 0} (f : A → ℕ) (es : List (Name × A)) (place : ℕ) (e : Name × A) → place < length es → e ≡ get_or es place e → total f (drop place es) ≡ f e.1 + total f (drop (place + 1) es)
total_split {A} f es place e inside is =
    ap (total f) (drop-cons es place e inside)
    ∙ (λ i. f (sym is i).1 + total f (drop (sym (add-one place) i) es))

-- One list

module _ {X : Type 0} where
  -- an item at the end adds one to the count of a test that its update passes, and nothing to others
  pub count_push : (test : ℕ → Bool) (items : List (Item X)) (item : Item X) → count_items test (items ++ item ∷ []) ≡ count_items test items + cond (test item.time.update) 1 0
  count_push test [] item = omega arith
  count_push test (first ∷ rest) item = let more = count_push test rest item in omega (arith, more)

  -- a test that every update passes counts all items of a list
  pub count_all : (items : List (Item X)) → count_items (λ update. true) items ≡ length items
  count_all [] = refl
  count_all (item ∷ rest) = let more = count_all rest in omega (arith, more)

  count_newer : (test : ℕ → Bool) (newest : ℕ) (items : List (Item X)) → count_items test (filter (λ (item : Item X). nat_le item.time.update newest) items) ≡ count_items (λ update. test update && nat_le update newest) items
  count_newer test newest [] = refl
  count_newer test newest (item ∷ rest) =
      let more : count_items test (filter (λ (x : Item X). nat_le x.time.update newest) rest) ≡ count_items (λ update. test update && nat_le update newest) rest = count_newer test newest rest in
      elim (nat_le item.time.update newest) as (λ b. count_items test (cond b (item ∷ filter (λ (x : Item X). nat_le x.time.update newest) rest) (filter (λ (x : Item X). nat_le x.time.update newest) rest)) ≡ cond (test item.time.update && b) 1 0 + count_items (λ update. test update && nat_le update newest) rest) [
        | true ↦ both (test item.time.update) more
        | false ↦ neither (test item.time.update) more
      ]
    where
      both : (b : Bool) {x y : ℕ} → x ≡ y → cond b 1 0 + x ≡ cond (b && true) 1 0 + y
      both true e = omega (arith, e)
      both false e = omega (arith, e)

      neither : (b : Bool) {x y : ℕ} → x ≡ y → x ≡ cond (b && false) 1 0 + y
      neither true e = omega (arith, e)
      neither false e = omega (arith, e)

  count_older : (test : ℕ → Bool) (oldest : ℕ) (since : Option Time) (items : List (Item X)) → count_items test (from_oldest oldest since items) ≤ count_items test items
  count_older test oldest since [] = omega arith
  count_older test oldest since (item ∷ rest) =
      let more : count_items test (from_oldest oldest since rest) ≤ count_items test rest = count_older test oldest since rest in
      elim (is_some (last_at oldest rest)) as (λ b. count_items test (cond b (from_oldest oldest since rest) (cond (nat_le item.time.update oldest && not (is_some (shown_value since item))) rest (item ∷ rest))) ≤ cond (test item.time.update) 1 0 + count_items test rest) [
        | true ↦ omega (arith, more)
        | false ↦ elim (nat_le item.time.update oldest && not (is_some (shown_value since item))) as (λ b. count_items test (cond b rest (item ∷ rest)) ≤ cond (test item.time.update) 1 0 + count_items test rest) [
          | true ↦ omega arith
          | false ↦ omega arith
        ]
      ]

  -- a cut leaves at most as many items that pass a test as there were
  pub count_cut : (cut : Cut) (test : ℕ → Bool) (items : List (Item X)) → count_items test (cut_items cut items) ≤ count_items test items
  count_cut (Older oldest since) test items = count_older test oldest since items
  count_cut (Newer newest) test [] = omega arith
  count_cut (Newer newest) test (item ∷ rest) =
      let more : count_items test (filter (λ (x : Item X). nat_le x.time.update newest) rest) ≤ count_items test rest = count_cut (Newer newest) test rest in
      elim (nat_le item.time.update newest) as (λ b. count_items test (cond b (item ∷ filter (λ (x : Item X). nat_le x.time.update newest) rest) (filter (λ (x : Item X). nat_le x.time.update newest) rest)) ≤ cond (test item.time.update) 1 0 + count_items test rest) [
        | true ↦ omega (arith, more)
        | false ↦ omega (arith, more)
      ]

  -- the old items that are left: one at most, and only if the part is there

  none_old : (oldest : ℕ) (items : List (Item X)) → is_some (last_at oldest items) ≡ false → count_items (λ update. nat_le update oldest) items ≡ 0
  none_old oldest [] none = refl
  none_old oldest (item ∷ rest) none =
      let facts = no_item (last_at oldest rest) (nat_le item.time.update oldest) none in
      let more = none_old oldest rest facts.0 in
      let here : cond {A = ℕ} (nat_le item.time.update oldest) 1 0 ≡ 0 = ap (λ b. cond b 1 0) facts.1 in
      omega (arith, here, more)
    where
      no_item : (o : Option (Item X)) (b : Bool) → is_some (or_else o (cond b (Some item) None)) ≡ false → (is_some o ≡ false) × (b ≡ false)
      no_item None true h = absurd cc
      no_item None false h = (refl, refl)
      no_item (Some other) b h = absurd cc

  old_left : (oldest : ℕ) (since : Option Time) (items : List (Item X)) → count_items (λ update. nat_le update oldest) (from_oldest oldest since items) ≤ of_option (λ (live : Time × X). 1) (live_at oldest since items)
  old_left oldest since [] = omega arith
  old_left oldest since (item ∷ rest) =
      elim (is_some (last_at oldest rest)) as (λ b. is_some (last_at oldest rest) ≡ b → count_items (λ update. nat_le update oldest) (cond b (from_oldest oldest since rest) (cond (nat_le item.time.update oldest && not (is_some (shown_value since item))) rest (item ∷ rest))) ≤ of_option (λ (live : Time × X). 1) (option_and_then (shown_value since) (or_else (last_at oldest rest) (unless_later oldest item)))) [
        | true ↦ λ e. subst (λ (o : Option (Item X)). count_items (λ update. nat_le update oldest) (from_oldest oldest since rest) ≤ of_option (λ (live : Time × X). 1) (option_and_then (shown_value since) o)) (over (last_at oldest rest) e) (old_left oldest since rest)
        | false ↦ λ e. alone (none_old oldest rest e) (last_at oldest rest) e (nat_le item.time.update oldest) refl (shown_value since item) refl
      ] refl
    where
      over : (o : Option (Item X)) → is_some o ≡ true → o ≡ or_else o (unless_later oldest item)
      over None some = absurd cc
      over (Some other) some = refl

      alone : count_items (λ update. nat_le update oldest) rest ≡ 0 → (o : Option (Item X)) → is_some o ≡ false → (b : Bool) → nat_le item.time.update oldest ≡ b → (says : Option (Time × X)) → shown_value since item ≡ says
          → count_items (λ update. nat_le update oldest) (cond (b && not (is_some says)) rest (item ∷ rest)) ≤ of_option (λ (live : Time × X). 1) (option_and_then (shown_value since) (or_else o (cond b (Some item) None)))
      alone none (Some other) gone b old says is = absurd cc
      alone none None gone false old says is = let here : cond {A = ℕ} (nat_le item.time.update oldest) 1 0 ≡ 0 = ap (λ b. cond b 1 0) old in omega (arith, none, here)
      alone none None gone true old None is = omega (arith, none)
      alone none None gone true old (Some live) is =
          let here : cond {A = ℕ} (nat_le item.time.update oldest) 1 0 ≡ 1 = ap (λ b. cond b 1 0) old in
          let one : of_option (λ (l : Time × X). 1) (shown_value since item) ≡ 1 = ap (of_option (λ (l : Time × X). 1)) is in
          omega (arith, none, here, one)

-- An operation

none_count : (test : ℕ → Bool) (o : Option (List (Item Name))) → count_items test (items_or_none o) ≡ of_option (count_items test) o
none_count test None = refl
none_count test (Some items) = refl

none_edge_count : (test : ℕ → Bool) (o : Option EdgeItems) → count_edge test (edge_or_none o) ≡ of_option (count_edge test) o
none_edge_count test None = refl
none_edge_count test (Some edge) = refl

tracks_count : (test : ℕ → Bool) (key : Name) (item : Item Name) (tracks : Tracks) → IsRising tracks → total (count_items test) (with_item key item tracks) ≡ total (count_items test) tracks + cond (test item.time.update) 1 0
tracks_count test key item tracks rising =
    let items : List (Item Name) = items_or_none (at_key key tracks) in
    omega (arith, total_put (count_items test) key (items ++ item ∷ []) tracks rising, count_push test items item, none_count test (at_key key tracks))

edge_count : (test : ℕ → Bool) (tag : Option Name) (item : Item Name) (edge : EdgeItems) → IsRising edge.tags → count_edge test (with_edge_item tag item edge) ≡ count_edge test edge + cond (test item.time.update) 1 0
edge_count test None item edge rising = omega (arith, count_push test edge.targets item)
edge_count test (Some key) item edge rising = omega (arith, tracks_count test key item edge.tags rising)

rise_or_none : (o : Option EdgeItems) → IsRising {X = List (Item Name)} [] → IfSome o (λ (edge : EdgeItems). IsRising edge.tags) → IsRising (edge_or_none o).tags
rise_or_none None none rise = none
rise_or_none (Some edge) none rise = rise

edges_count : (test : ℕ → Bool) (name : Name) (tag : Option Name) (item : Item Name) (edges : List (Name × EdgeItems)) → IsRising {X = List (Item Name)} [] → IsRising edges × TagsRise name edges → total (count_edge test) (with_item_of name tag item edges) ≡ total (count_edge test) edges + cond (test item.time.update) 1 0
edges_count test name tag item edges none rise =
    let edge : EdgeItems = edge_or_none (at_key name edges) in
    omega (arith, total_put (count_edge test) name (with_edge_item tag item edge) edges rise.0, edge_count test tag item edge (rise_or_none (at_key name edges) none rise.1), none_edge_count test (at_key name edges))

no_change : (b : Bool) (n : ℕ) → n ≡ n + cond b 0 0
no_change true n = omega arith
no_change false n = omega arith

written_count : (test : ℕ → Bool) (time : Time) (written : WrittenItem) (lists : Lists) → IsRising {X = List (Item Name)} [] → KeysRiseFor written lists
    → count_updates test (with_written time written lists) ≡ count_updates test lists + cond (test time.update) (items_of_written written) 0
written_count test time NoItem lists none rise = no_change (test time.update) (count_updates test lists)
written_count test time (OfVertex value) lists none rise = omega (arith, count_push test lists.presence (record { time = time; value = value }))
written_count test time (OfProp key value) lists none rise = omega (arith, tracks_count test key (record { time = time; value = value }) lists.props rise)
written_count test time (OfEdge name tag value) lists none rise = omega (arith, edges_count test name tag (record { time = time; value = value }) lists.edges none rise)

-- where keys rise, an operation that isn't a read adds one item of its update; a read adds none
pub op_count : (test : ℕ → Bool) (time : Time) (op : Op) (lists : Lists) → IsRising {X = List (Item Name)} [] → KeysRise op lists → count_updates test (with_op time op lists) ≡ count_updates test lists + cond (test time.update) (changes_of op) 0
op_count test time op lists none rise =
    written_count test time (written_by op) lists none rise
    ∙ ap (λ n. count_updates test lists + cond (test time.update) n 0) (sym (one_item op))

-- A cut

-- an empty list that goes had no items
pub left_count : (test : ℕ → Bool) (items : List (Item Name)) → of_option (count_items test) (cond (has_items items) (Some items) None) ≡ count_items test items
left_count test [] = refl
left_count test (item ∷ rest) = refl

-- an edge that goes had no items
pub left_edge_count : (test : ℕ → Bool) (targets : List (Item Name)) (tags : Tracks) → of_option (count_edge test) (cond (has_items targets || has_items tags) (Some (record { targets = targets; tags = tags })) None) ≡ count_edge test (record { targets = targets; tags = tags })
left_edge_count test [] [] = refl
left_edge_count test [] (tag ∷ tags) = refl
left_edge_count test (item ∷ rest) tags = refl

tracks_newer : (test : ℕ → Bool) (newest : ℕ) (tracks : Tracks) → total (count_items test) (cut_tracks (Newer newest) tracks) ≡ total (count_items (λ update. test update && nat_le update newest)) tracks
tracks_newer test newest tracks = total_kept (count_items test) (left_items (Newer newest)) (count_items (λ update. test update && nat_le update newest)) (λ items. left_count test (cut_items (Newer newest) items) ∙ count_newer test newest items) tracks

edges_newer : (test : ℕ → Bool) (newest : ℕ) (edges : List (Name × EdgeItems)) → total (count_edge test) (cut_edges (Newer newest) edges) ≡ total (count_edge (λ update. test update && nat_le update newest)) edges
edges_newer test newest edges = total_kept (count_edge test) (left_edge (Newer newest)) (count_edge (λ update. test update && nat_le update newest)) (λ edge.
    left_edge_count test (cut_items (Newer newest) edge.targets) (cut_tracks (Newer newest) edge.tags)
    ∙ (λ i. count_newer test newest edge.targets i + tracks_newer test newest edge.tags i)) edges

-- when the items after an update are dropped, a test counts those up to it that passed before
pub until_count : (test : ℕ → Bool) (newest : ℕ) (lists : Lists) → count_updates test (lists_until newest lists) ≡ count_updates (λ update. test update && nat_le update newest) lists
until_count test newest lists = λ i. count_newer test newest lists.presence i + (tracks_newer test newest lists.props i + edges_newer test newest lists.edges i)

tracks_less : (cut : Cut) (test : ℕ → Bool) (tracks : Tracks) → total (count_items test) (cut_tracks cut tracks) ≤ total (count_items test) tracks
tracks_less cut test tracks = total_less (count_items test) (left_items cut) (count_items test) (λ items. omega (arith, left_count test (cut_items cut items), count_cut cut test items)) tracks

edges_less : (cut : Cut) (test : ℕ → Bool) (edges : List (Name × EdgeItems)) → total (count_edge test) (cut_edges cut edges) ≤ total (count_edge test) edges
edges_less cut test edges = total_less (count_edge test) (left_edge cut) (count_edge test) (λ edge.
    omega (arith, left_edge_count test (cut_items cut edge.targets) (cut_tracks (inner_cut cut edge.targets) edge.tags), count_cut cut test edge.targets, tracks_less (inner_cut cut edge.targets) test edge.tags)) edges

-- a cut of a vertex leaves at most as many of its items that pass a test as there were
pub cut_count : (cut : Cut) (test : ℕ → Bool) (lists : Lists) → count_updates test (cut_lists cut lists) ≤ count_updates test lists
cut_count cut test lists = omega (arith, count_cut cut test lists.presence, tracks_less (inner_cut cut lists.presence) test lists.props, edges_less (inner_cut cut lists.presence) test lists.edges)

-- What a collection leaves of old items

none_since : {X : Type 0} (update : ℕ) (o : Option (Item X)) → option_and_then (shown_value None) o ≡ None
none_since update None = refl
none_since update (Some item) = refl

values_none : (update : ℕ) (tracks : Tracks) → track_values_at update None tracks ≡ []
values_none update [] = refl
values_none update (pair ∷ rest) = ap (λ (o : Option (Time × Name)). with_value pair.0 (option_map (λ (live : Time × Name). live.1) o) (track_values_at update None rest)) (none_since update (last_at update pair.1)) ∙ values_none update rest

edges_none : (update : ℕ) (edges : List (Name × EdgeItems)) → edges_at update None edges ≡ []
edges_none update [] = refl
edges_none update (pair ∷ rest) = ap (λ (o : Option (Time × Name)). with_value pair.0 (option_map (live_edge update pair.1.tags) o) (edges_at update None rest)) (none_since update (last_at update pair.1.targets)) ∙ edges_none update rest

-- a part that is there has one value
pub one_value : (o : Option (Time × Name)) → of_option (λ (live : Time × Name). 1) o ≡ of_option (λ (value : Name). 1) (option_map (λ (live : Time × Name). live.1) o)
one_value None = refl
one_value (Some live) = refl

tracks_old : (oldest : ℕ) (since : Option Time) (tracks : Tracks) → total (count_items (λ update. nat_le update oldest)) (cut_tracks (Older oldest since) tracks) ≤ length (track_values_at oldest since tracks)
tracks_old oldest since tracks =
    let less = totals_less (count_items (λ update. nat_le update oldest)) (left_items (Older oldest since)) (λ (value : Name). 1) (value_at oldest since) (λ items.
    omega (arith, left_count (λ update. nat_le update oldest) (from_oldest oldest since items), old_left oldest since items, one_value (live_at oldest since items))) tracks in
    omega (arith, less, total_ones (track_values_at oldest since tracks))

edge_old : (oldest : ℕ) (since : Option Time) (edge : EdgeItems) → count_edge (λ update. nat_le update oldest) (cut_edge (Older oldest since) edge) ≤ of_option (λ (found : Edge). 1 + length found.tags) (edge_at oldest since edge)
edge_old oldest since edge =
    let tags = tracks_old oldest (since_at oldest since edge.targets) edge.tags in
    by (live_at oldest since edge.targets) (old_left oldest since edge.targets) tags
  where
    by : (o : Option (Time × Name)) {n m : ℕ} → n ≤ of_option (λ (live : Time × Name). 1) o → m ≤ length (track_values_at oldest (option_map (λ (live : Time × Name). live.0) o) edge.tags) → n + m ≤ of_option (λ (found : Edge). 1 + length found.tags) (option_map (live_edge oldest edge.tags) o)
    by None first second = let none : length (track_values_at oldest None edge.tags) ≡ 0 = ap length (values_none oldest edge.tags) in omega (arith, first, second, none)
    by (Some live) first second = omega (arith, first, second)

edges_old : (oldest : ℕ) (since : Option Time) (edges : List (Name × EdgeItems)) → total (count_edge (λ update. nat_le update oldest)) (cut_edges (Older oldest since) edges) ≤ total (λ (found : Edge). 1 + length found.tags) (edges_at oldest since edges)
edges_old oldest since edges = totals_less (count_edge (λ update. nat_le update oldest)) (left_edge (Older oldest since)) (λ (found : Edge). 1 + length found.tags) (edge_at oldest since) (λ edge.
    omega (arith, left_edge_count (λ update. nat_le update oldest) (from_oldest oldest since edge.targets) (cut_tracks (Older oldest (since_at oldest since edge.targets)) edge.tags), edge_old oldest since edge)) edges

-- of the updates up to the oldest, a collection leaves at most as many items as the state after it has parts
pub collected_old : (oldest : ℕ) (lists : Lists) → count_updates (λ update. nat_le update oldest) (collected_lists oldest lists) ≤ size_of (state_at oldest lists)
collected_old oldest lists =
    by (live_at oldest (Some beginning) lists.presence) (old_left oldest (Some beginning) lists.presence)
    (tracks_old oldest (since_at oldest (Some beginning) lists.presence) lists.props)
    (edges_old oldest (since_at oldest (Some beginning) lists.presence) lists.edges)
  where
    by : (o : Option (Time × Unit {0})) {n m k : ℕ} → n ≤ of_option (λ (live : Time × Unit {0}). 1) o
        → m ≤ length (track_values_at oldest (option_map (λ (live : Time × Unit {0}). live.0) o) lists.props)
        → k ≤ total (λ (found : Edge). 1 + length found.tags) (edges_at oldest (option_map (λ (live : Time × Unit {0}). live.0) o) lists.edges)
        → n + (m + k) ≤ size_of (option_map (λ (live : Time × Unit {0}). record_at oldest (Some live.0) lists) o)
    by None first second third =
        let none : length (track_values_at oldest None lists.props) ≡ 0 = ap length (values_none oldest lists.props) in
        let no_edges : total (λ (found : Edge). 1 + length found.tags) (edges_at oldest None lists.edges) ≡ 0 = ap (total (λ (found : Edge). 1 + length found.tags)) (edges_none oldest lists.edges) in
        omega (arith, first, second, third, none, no_edges)
    by (Some live) first second third = omega (arith, first, second, third)
