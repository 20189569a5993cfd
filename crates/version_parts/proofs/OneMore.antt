-- The central law: the state after one more operation. And the states before it, which stay.
-- Used by `items_make_states`, Counting, Cutting, Placing, Sequences and Updating.
use Rattle.std.proofs.Common.{◌≡◌, ◌≤◌, ◌<◌, inl, ℕ, Bool, true, false, not, cond, List, [], ◌∷◌, ◌++◌, Option, Some, None, is_some, IfSome, IsTrue, Err, is_ok, refl, sym, ap, ◌∙◌, arith}
use Rattle.std.specs.List.{AllByRecursion}
use Rattle.std.specs.Option.{option_map, option_and_then}
use Rattle.weave_data.specs.declared.name.Name.{Name}
use Rattle.weave_data.specs.Pairs.{IsRising, at_key, has, put, without_key, is_full}
use Rattle.weave_data.proofs.Changing.{none_rise}
use Rattle.graph_ops.specs.declared.op.Op.{Op}
use Rattle.graph_ops.specs.declared.op.Op.TheVariants.{Create, Delete, Set, Unset, Link, Join, Unlink, Tag, Untag, Get}
use Rattle.graph_ops.specs.declared.op.Reason.{Reason}
use Rattle.graph_ops.specs.declared.op.Reason.TheVariants.{Exists, NoKey, EdgeExists, NoEdge, Full}
use Rattle.graph_ops.specs.declared.record.Edge.{Edge}
use Rattle.graph_ops.specs.declared.record.Record.{Record}
use Rattle.graph_ops.specs.Operations.{State, Outcome, done_with, on_edge, outcome_of_op}
use Rattle.graph_ops.specs.VertexOps.{state_left}
use Rattle.version_parts.specs.declared.edge.EdgeItems.{EdgeItems}
use Rattle.version_parts.specs.declared.lists.Lists.{Lists}
use Rattle.version_parts.specs.declared.time.Time.{Time}
use Rattle.version_parts.specs.declared.track.Item.{Item}
use Rattle.version_parts.specs.Counts.{changes_of}
use Rattle.version_parts.specs.KeptValues.{with_change}
use Rattle.version_parts.specs.Ordered.{IsEarlierTime, AreBefore, TagsRise, KeysRise, KeysRiseFor}
use Rattle.version_parts.specs.Placed.{AllInTracks, AllInEdge, AllInEdges}
use Rattle.version_parts.specs.States.{Tracks, value_at, track_values_at, live_edge, edge_at, edges_at, record_at, state_at, items_or_none, with_item, edge_or_none, with_edge_item, with_item_of, with_op, WrittenItem, NoItem, OfVertex, OfProp, OfEdge, with_written, written_by}
use Rattle.version_parts.specs.Times.{beginning, counts}
use Rattle.version_parts.specs.Tracks.{live_at}
use Rattle.version_parts.proofs.KeptLaws.{kept_put, kept_same, at_kept, kept_none, of_key}
use Rattle.version_parts.proofs.Pushing.{later, not_later, all_weaker, live_before, live_after, says, live_has, none_counts}

-- how many items are added
abbrev pub items_of_written : WrittenItem → ℕ
items_of_written NoItem = 0
items_of_written (OfVertex value) = 1
items_of_written (OfProp key value) = 1
items_of_written (OfEdge name tag value) = 1

-- An outcome that passes

left_if : (test : Bool) (reason : Reason) (rest : Outcome) (state : State) → IsTrue (is_ok (cond test (Err reason) rest)) → state_left state (cond test (Err reason) rest) ≡ state_left state rest
left_if true reason rest state passes = absurd cc
left_if false reason rest state passes = refl

ok_if : (test : Bool) (reason : Reason) (rest : Outcome) → IsTrue (is_ok (cond test (Err reason) rest)) → IsTrue (is_ok rest)
ok_if true reason rest passes = absurd cc
ok_if false reason rest passes = passes

-- an edge with its target and tags, as a function
abbrev pub made_edge : Name → List (Name × Name) → Edge
made_edge target tags = record { target = target; tags = tags }

-- a record with its properties and edges, as a function
abbrev pub made_record : List (Name × Name) → List (Name × Edge) → Record
made_record props edges = record { props = props; edges = edges }

-- Lists that are looked up

none_value : (update : ℕ) (since : Option Time) (o : Option (List (Item Name))) → value_at update since (items_or_none o) ≡ option_and_then (value_at update since) o
none_value update since None = refl
none_value update since (Some items) = refl

none_edge : (update : ℕ) (since : Option Time) (o : Option EdgeItems) → edge_at update since (edge_or_none o) ≡ option_and_then (edge_at update since) o
none_edge update since None = refl
none_edge update since (Some edge) = refl

tags_rise : (o : Option EdgeItems) → IfSome o (λ (edge : EdgeItems). IsRising edge.tags) → IsRising (edge_or_none o).tags
tags_rise None rise = none_rise {X = List (Item Name)} [] refl
tags_rise (Some edge) rise = rise

-- Before the update of the item

module _ (update : ℕ) (since : Option Time) where
  values_stay : (key : Name) (item : Item Name) (tracks : Tracks) → IsRising tracks → update < item.time.update → track_values_at update since (with_item key item tracks) ≡ track_values_at update since tracks
  values_stay key item tracks rising after =
      let items : List (Item Name) = items_or_none (at_key key tracks) in
      kept_same (value_at update since) key (items ++ item ∷ []) tracks rising
      (ap (option_map (λ (live : Time × Name). live.1)) (live_before update since items item after) ∙ none_value update since (at_key key tracks))

edge_stays : (update : ℕ) (since : Option Time) (tag : Option Name) (item : Item Name) (edge : EdgeItems) → IsRising edge.tags → update < item.time.update → edge_at update since (with_edge_item tag item edge) ≡ edge_at update since edge
edge_stays update since None item edge rising after = ap (option_map (live_edge update edge.tags)) (live_before update since edge.targets item after)
edge_stays update since (Some key) item edge rising after =
    elim (live_at update since edge.targets) as (λ (o : Option (Time × Name)). option_map (live_edge update (with_item key item edge.tags)) o ≡ option_map (live_edge update edge.tags) o) [
      | None ↦ refl
      | Some live ↦ ap (λ (tags : List (Name × Name)). Some (made_edge live.1 tags)) (values_stay update (Some live.0) key item edge.tags rising after)
    ]

edges_stay : (update : ℕ) (since : Option Time) (name : Name) (tag : Option Name) (item : Item Name) (edges : List (Name × EdgeItems)) → IsRising edges → TagsRise name edges → update < item.time.update → edges_at update since (with_item_of name tag item edges) ≡ edges_at update since edges
edges_stay update since name tag item edges rising tags after =
    let edge : EdgeItems = edge_or_none (at_key name edges) in
    kept_same (edge_at update since) name (with_edge_item tag item edge) edges rising
    (edge_stays update since tag item edge (tags_rise (at_key name edges) tags) after ∙ none_edge update since (at_key name edges))

-- the state, if the record stays at each time of making
states_alike : (update : ℕ) (now was : Lists) → now.presence ≡ was.presence → ((since : Option Time) → record_at update since now ≡ record_at update since was) → state_at update now ≡ state_at update was
states_alike update now was same records =
    ap (λ (presence : List (Item (Unit {0}))). option_map (λ (live : Time × Unit {0}). record_at update (Some live.0) now) (live_at update (Some beginning) presence)) same
    ∙ elim (live_at update (Some beginning) was.presence) as (λ (o : Option (Time × Unit {0})). option_map (λ (live : Time × Unit {0}). record_at update (Some live.0) now) o ≡ option_map (λ (live : Time × Unit {0}). record_at update (Some live.0) was) o) [
      | None ↦ refl
      | Some live ↦ ap Some (records (Some live.0))
    ]

module _ (update : ℕ) (time : Time) (lists : Lists) (after : update < time.update) where
  presence_stays : (value : Option (Unit {0})) → state_at update (record lists { presence = lists.presence ++ record { time = time; value = value } ∷ [] }) ≡ state_at update lists
  presence_stays value = ap (option_map (λ (live : Time × Unit {0}). record_at update (Some live.0) lists)) (live_before update (Some beginning) lists.presence (record { time = time; value = value }) after)

  props_stay : (key : Name) (value : Option Name) → IsRising lists.props → state_at update (record lists { props = with_item key (record { time = time; value = value }) lists.props }) ≡ state_at update lists
  props_stay key value rising = states_alike update (record lists { props = with_item key (record { time = time; value = value }) lists.props }) lists refl
      (λ since. ap (λ (props : List (Name × Name)). record { props = props; edges = edges_at update since lists.edges }) (values_stay update since key (record { time = time; value = value }) lists.props rising after))

  links_stay : (name : Name) (tag value : Option Name) → IsRising lists.edges × TagsRise name lists.edges → state_at update (record lists { edges = with_item_of name tag (record { time = time; value = value }) lists.edges }) ≡ state_at update lists
  links_stay name tag value rise = states_alike update (record lists { edges = with_item_of name tag (record { time = time; value = value }) lists.edges }) lists refl
      (λ since. ap (λ (edges : List (Name × Edge)). record { props = track_values_at update since lists.props; edges = edges }) (edges_stay update since name tag (record { time = time; value = value }) lists.edges rise.0 rise.1 after))

  written_stays : (written : WrittenItem) → KeysRiseFor written lists → state_at update (with_written time written lists) ≡ state_at update lists
  written_stays NoItem rise = refl
  written_stays (OfVertex value) rise = presence_stays value
  written_stays (OfProp key value) rise = props_stay key value rise
  written_stays (OfEdge name tag value) rise = links_stay name tag value rise

  -- the states before the update of the operation stay
  pub earlier_stay : (op : Op) → KeysRise op lists → state_at update (with_op time op lists) ≡ state_at update lists
  earlier_stay op rise = written_stays (written_by op) rise

-- At the update of the item

said : (time : Time) (value : Option Name) → option_map (λ (live : Time × Name). live.1) (option_map (λ (x : Name). (time, x)) value) ≡ value
said time None = refl
said time (Some x) = refl

module _ (update : ℕ) (since : Option Time) (time : Time) (counted : counts since time ≡ true) (now : time.update ≤ update) where
  values_change : (key : Name) (value : Option Name) (tracks : Tracks) → IsRising tracks → track_values_at update since (with_item key (record { time = time; value = value }) tracks) ≡ with_change key value (track_values_at update since tracks)
  values_change key value tracks rising =
      let items : List (Item Name) = items_or_none (at_key key tracks) in
      kept_put (value_at update since) key (items ++ record { time = time; value = value } ∷ []) tracks rising
      ∙ ap (λ (o : Option (Time × Name)). with_change key (option_map (λ (live : Time × Name). live.1) o) (track_values_at update since tracks)) (live_after update since items (record { time = time; value = value }) now ∙ says since time value counted)
      ∙ ap (λ (o : Option Name). with_change key o (track_values_at update since tracks)) (said time value)

  -- what was there before an edge is hidden
  edge_made : (value : Option Name) (edge : EdgeItems) → AllInTracks (λ earlier. IsEarlierTime earlier time) edge.tags
      → edge_at update since (with_edge_item None (record { time = time; value = value }) edge) ≡ option_map (λ (target : Name). record { target = target; tags = [] }) value
  edge_made value edge before =
      ap (option_map (live_edge update edge.tags)) (live_after update since edge.targets (record { time = time; value = value }) now ∙ says since time value counted)
      ∙ made value
    where
      hidden : (tracks : Tracks) → AllInTracks (λ earlier. IsEarlierTime earlier time) tracks → AllByRecursion (λ (pair : Name × List (Item Name)). value_at update (Some time) pair.1 ≡ None) tracks
      hidden [] all = tt
      hidden (pair ∷ rest) all = (
        ap (option_map (λ (live : Time × Name). live.1)) (none_counts update (Some time) pair.1 (all_weaker (λ earlier. IsEarlierTime earlier time) (λ earlier. counts (Some time) earlier ≡ false) (λ earlier is. not_later earlier time is) pair.1 all.0)),
        hidden rest all.1,
      )

      made : (value : Option Name) → option_map (live_edge update edge.tags) (option_map (λ (x : Name). (time, x)) value) ≡ option_map (λ (target : Name). record { target = target; tags = [] }) value
      made None = refl
      made (Some target) = ap (λ (tags : List (Name × Name)). Some (made_edge target tags)) (kept_none (value_at update (Some time)) edge.tags (hidden edge.tags before))

-- an edge that is there, with a tag changed
tag_changed : (update : ℕ) (since : Option Time) (time : Time) → time.update ≤ update → (key : Name) (value : Option Name) (edge : EdgeItems) (found : Edge) → IsRising edge.tags → AllInEdge (λ earlier. IsEarlierTime earlier time) edge → edge_at update since edge ≡ Some found
    → edge_at update since (with_edge_item (Some key) (record { time = time; value = value }) edge) ≡ Some (record found { tags = with_change key value found.tags })
tag_changed update since time now key value edge found rising before there =
    elim (live_at update since edge.targets) as (λ (o : Option (Time × Name)). live_at update since edge.targets ≡ o → option_map (live_edge update edge.tags) o ≡ Some found → option_map (live_edge update (with_item key (record { time = time; value = value }) edge.tags)) o ≡ Some (record found { tags = with_change key value found.tags })) [
      | None ↦ λ e h. absurd cc
      | Some live ↦ λ e h.
          let is : live_edge update edge.tags live ≡ found = cc in
          let counted : counts (Some live.0) time ≡ true = later time live.0 (live_has (λ earlier. IsEarlierTime earlier time) update since edge.targets live before.0 e) in
          ap (λ (tags : List (Name × Name)). Some (made_edge live.1 tags)) (values_change update (Some live.0) time counted now key value edge.tags rising)
          ∙ ap (λ (made : Edge). Some (made_edge made.target (with_change key value made.tags))) is
    ] refl there

-- what holds of all times holds of those of an edge
pub edge_before : (P : Time → Type 0) (name : Name) (edges : List (Name × EdgeItems)) → AllInEdges P edges → AllInEdge P (edge_or_none (at_key name edges))
edge_before P name edges all =
    elim (at_key name edges) as (λ (o : Option EdgeItems). at_key name edges ≡ o → AllInEdge P (edge_or_none o)) [
      | None ↦ λ e. (tt, tt)
      | Some edge ↦ λ e. of_key name (AllInEdge P) edges edge all e
    ] refl

all_hidden : (time : Time) (tracks : Tracks) → AllInTracks (λ earlier. IsEarlierTime earlier time) tracks → AllByRecursion (λ (pair : Name × List (Item Name)). value_at time.update (Some time) pair.1 ≡ None) tracks
all_hidden time [] all = tt
all_hidden time (pair ∷ rest) all = (
  ap (option_map (λ (live : Time × Name). live.1)) (none_counts time.update (Some time) pair.1 (all_weaker (λ earlier. IsEarlierTime earlier time) (λ earlier. counts (Some time) earlier ≡ false) (λ earlier is. not_later earlier time is) pair.1 all.0)),
  all_hidden time rest all.1,
)

edges_hidden : (time : Time) (edges : List (Name × EdgeItems)) → AllInEdges (λ earlier. IsEarlierTime earlier time) edges → AllByRecursion (λ (pair : Name × EdgeItems). edge_at time.update (Some time) pair.1 ≡ None) edges
edges_hidden time [] all = tt
edges_hidden time (pair ∷ rest) all = (
  ap (option_map (live_edge time.update pair.1.tags)) (none_counts time.update (Some time) pair.1.targets (all_weaker (λ earlier. IsEarlierTime earlier time) (λ earlier. counts (Some time) earlier ≡ false) (λ earlier is. not_later earlier time is) pair.1.targets all.0.0)),
  edges_hidden time rest all.1,
)

module _ (time : Time) (lists : Lists) (before : AreBefore time lists) (numbered : 1 ≤ time.update) where
  abbrev update : ℕ
  update = time.update

  abbrev item : Option Name → Item Name
  item value = record { time = time; value = value }

  abbrev made : Option (Time × Unit {0})
  made = live_at update (Some beginning) lists.presence

  -- the state of a vertex that was made so
  abbrev read : Option (Time × Unit {0}) → State
  read o = option_map (λ (live : Time × Unit {0}). record_at update (Some live.0) lists) o

  after_all : counts (Some beginning) time ≡ true
  after_all = later time beginning (inl (omega (arith, numbered)))

  after_made : (live : Time × Unit {0}) → made ≡ Some live → counts (Some live.0) time ≡ true
  after_made live is = later time live.0 (live_has (λ earlier. IsEarlierTime earlier time) update (Some beginning) lists.presence live before.0 is)

  presence_now : (value : Option (Unit {0})) → live_at update (Some beginning) (lists.presence ++ record { time = time; value = value } ∷ []) ≡ option_map (λ (x : Unit {0}). (time, x)) value
  presence_now value = live_after update (Some beginning) lists.presence (record { time = time; value = value }) (omega arith) ∙ says (Some beginning) time value after_all

  create_law : (v : Name) → IsTrue (is_ok (outcome_of_op (Create v) (state_at update lists))) → state_at update (with_op time (Create v) lists) ≡ state_left (state_at update lists) (outcome_of_op (Create v) (state_at update lists))
  create_law v passes =
      let bare : record_at update (Some time) lists ≡ record { props = []; edges = [] } =
      (λ i. record { props = kept_none (value_at update (Some time)) lists.props (all_hidden time lists.props before.1) i; edges = kept_none (edge_at update (Some time)) lists.edges (edges_hidden time lists.edges before.2) i }) in
      ap (option_map (λ (live : Time × Unit {0}). record_at update (Some live.0) lists)) (presence_now (Some tt))
      ∙ ap (λ (now : Record). Some now) bare
      ∙ sym (left_if (is_some (state_at update lists)) Exists (done_with (record { props = []; edges = [] })) (state_at update lists) passes)

  delete_law : (v : Name) → IsTrue (is_ok (outcome_of_op (Delete v) (state_at update lists))) → state_at update (with_op time (Delete v) lists) ≡ state_left (state_at update lists) (outcome_of_op (Delete v) (state_at update lists))
  delete_law v passes =
      ap (option_map (λ (live : Time × Unit {0}). record_at update (Some live.0) lists)) (presence_now None)
      ∙ gone (state_at update lists) passes
    where
      gone : (state : State) → IsTrue (is_ok (outcome_of_op (Delete v) state)) → None ≡ state_left state (outcome_of_op (Delete v) state)
      gone None passes = absurd cc
      gone (Some was) passes = refl

  -- an operation on a vertex that is there
  on_made : (op : Op) (now : Lists) → now.presence ≡ lists.presence
      → (IsTrue (is_ok (outcome_of_op op None)) → ⊥)
      → ((live : Time × Unit {0}) → made ≡ Some live → IsTrue (is_ok (outcome_of_op op (read (Some live)))) → Some (record_at update (Some live.0) now) ≡ state_left (read (Some live)) (outcome_of_op op (read (Some live))))
      → IsTrue (is_ok (outcome_of_op op (state_at update lists))) → state_at update now ≡ state_left (state_at update lists) (outcome_of_op op (state_at update lists))
  on_made op now same missing there passes =
      ap (λ (presence : List (Item (Unit {0}))). option_map (λ (live : Time × Unit {0}). record_at update (Some live.0) now) (live_at update (Some beginning) presence)) same
      ∙ elim made as (λ (o : Option (Time × Unit {0})). made ≡ o → IsTrue (is_ok (outcome_of_op op (read o))) → option_map (λ (live : Time × Unit {0}). record_at update (Some live.0) now) o ≡ state_left (read o) (outcome_of_op op (read o))) [
        | None ↦ λ e h. absurd (missing h)
        | Some live ↦ λ e h. there live e h
      ] refl passes

  props_law : (key : Name) (value : Option Name) (live : Time × Unit {0}) → IsRising lists.props → made ≡ Some live
      → Some (record_at update (Some live.0) (record lists { props = with_item key (item value) lists.props })) ≡ Some (record (record_at update (Some live.0) lists) { props = with_change key value (track_values_at update (Some live.0) lists.props) })
  props_law key value live rising is =
      ap (λ (props : List (Name × Name)). Some (made_record props (edges_at update (Some live.0) lists.edges))) (values_change update (Some live.0) time (after_made live is) (omega arith) key value lists.props rising)

  links_law : (name : Name) (tag value : Option Name) (live : Time × Unit {0}) (now : Option Edge) → IsRising lists.edges
      → edge_at update (Some live.0) (with_edge_item tag (item value) (edge_or_none (at_key name lists.edges))) ≡ now
      → Some (record_at update (Some live.0) (record lists { edges = with_item_of name tag (item value) lists.edges })) ≡ Some (record (record_at update (Some live.0) lists) { edges = with_change name now (edges_at update (Some live.0) lists.edges) })
  links_law name tag value live now rising is =
      ap (λ (edges : List (Name × Edge)). Some (made_record (track_values_at update (Some live.0) lists.props) edges))
      (kept_put (edge_at update (Some live.0)) name (with_edge_item tag (item value) (edge_or_none (at_key name lists.edges))) lists.edges rising
      ∙ ap (λ (o : Option Edge). with_change name o (edges_at update (Some live.0) lists.edges)) is)

  -- the edge that a link or an unlink leaves
  link_now : (name : Name) (value : Option Name) (live : Time × Unit {0}) → made ≡ Some live
      → edge_at update (Some live.0) (with_edge_item None (item value) (edge_or_none (at_key name lists.edges))) ≡ option_map (λ (target : Name). record { target = target; tags = [] }) value
  link_now name value live is =
      edge_made update (Some live.0) time (after_made live is) (omega arith) value (edge_or_none (at_key name lists.edges)) (edge_before (λ earlier. IsEarlierTime earlier time) name lists.edges before.2).1

  -- the edge that a change of a tag leaves
  tag_now : (name key : Name) (value : Option Name) (live : Time × Unit {0}) (found : Edge) → IsRising lists.edges × TagsRise name lists.edges → at_key name (edges_at update (Some live.0) lists.edges) ≡ Some found
      → edge_at update (Some live.0) (with_edge_item (Some key) (item value) (edge_or_none (at_key name lists.edges))) ≡ Some (record found { tags = with_change key value found.tags })
  tag_now name key value live found rise there =
      tag_changed update (Some live.0) time (omega arith) key value (edge_or_none (at_key name lists.edges)) found (tags_rise (at_key name lists.edges) rise.1) (edge_before (λ earlier. IsEarlierTime earlier time) name lists.edges before.2)
      (none_edge update (Some live.0) (at_key name lists.edges) ∙ sym (at_kept (edge_at update (Some live.0)) name lists.edges rise.0) ∙ there)

  -- the state after the operation
  pub one_more : (op : Op) → KeysRise op lists → IsTrue (is_ok (outcome_of_op op (state_at update lists))) → state_at update (with_op time op lists) ≡ state_left (state_at update lists) (outcome_of_op op (state_at update lists))
  one_more (Create v) rise passes = create_law v passes
  one_more (Delete v) rise passes = delete_law v passes
  one_more (Set v key value) rise passes =
      on_made (Set v key value) (with_op time (Set v key value) lists) refl (λ h. absurd cc) (λ live is h.
      let was : Record = record_at update (Some live.0) lists in
      props_law key (Some value) live rise is ∙ sym (left_if (is_full 64 key was.props) Full (done_with (record was { props = put key value was.props })) (Some was) h)) passes
  one_more (Unset v key) rise passes =
      on_made (Unset v key) (with_op time (Unset v key) lists) refl (λ h. absurd cc) (λ live is h.
      let was : Record = record_at update (Some live.0) lists in
      props_law key None live rise is ∙ sym (left_if (not (has key was.props)) NoKey (done_with (record was { props = without_key key was.props })) (Some was) h)) passes
  one_more (Link v name target) rise passes =
      on_made (Link v name target) (with_op time (Link v name target) lists) refl (λ h. absurd cc) (λ live is h.
      let was : Record = record_at update (Some live.0) lists in
      let done : Outcome = done_with (record was { edges = put name (record { target = target; tags = [] }) was.edges }) in
      links_law name None (Some target) live (Some (record { target = target; tags = [] })) rise.0 (link_now name (Some target) live is)
      ∙ sym (left_if (has name was.edges) EdgeExists (cond (is_full 1000 name was.edges) (Err Full) done) (Some was) h
      ∙ left_if (is_full 1000 name was.edges) Full done (Some was) (ok_if (has name was.edges) EdgeExists (cond (is_full 1000 name was.edges) (Err Full) done) h))) passes
  one_more (Join v name target) rise passes =
      on_made (Join v name target) (with_op time (Join v name target) lists) refl (λ h. absurd cc) (λ live is h.
      let was : Record = record_at update (Some live.0) lists in
      let done : Outcome = done_with (record was { edges = put name (record { target = target; tags = [] }) was.edges }) in
      links_law name None (Some target) live (Some (record { target = target; tags = [] })) rise.0 (link_now name (Some target) live is)
      ∙ sym (left_if (has name was.edges) EdgeExists (cond (is_full 1000 name was.edges) (Err Full) done) (Some was) h
      ∙ left_if (is_full 1000 name was.edges) Full done (Some was) (ok_if (has name was.edges) EdgeExists (cond (is_full 1000 name was.edges) (Err Full) done) h))) passes
  one_more (Unlink v name) rise passes =
      on_made (Unlink v name) (with_op time (Unlink v name) lists) refl (λ h. absurd cc) (λ live is h.
      let was : Record = record_at update (Some live.0) lists in
      links_law name None None live None rise.0 (link_now name None live is)
      ∙ sym (left_if (not (has name was.edges)) NoEdge (done_with (record was { edges = without_key name was.edges })) (Some was) h)) passes
  one_more (Tag v name key value) rise passes =
      on_made (Tag v name key value) (with_op time (Tag v name key value) lists) refl (λ h. absurd cc) (λ live is h.
      let was : Record = record_at update (Some live.0) lists in
      let rest : Edge → Outcome = (λ (edge : Edge). cond (is_full 8 key edge.tags) (Err Full) (done_with (record was { edges = put name (record edge { tags = put key value edge.tags }) was.edges }))) in
      elim (at_key name was.edges) as (λ (o : Option Edge). at_key name was.edges ≡ o → IsTrue (is_ok (on_edge o rest)) → Some (record_at update (Some live.0) (with_op time (Tag v name key value) lists)) ≡ state_left (Some was) (on_edge o rest)) [
        | None ↦ λ e k. absurd cc
        | Some found ↦ λ e k. links_law name (Some key) (Some value) live (Some (record found { tags = put key value found.tags })) rise.0 (tag_now name key (Some value) live found rise e)
            ∙ sym (left_if (is_full 8 key found.tags) Full (done_with (record was { edges = put name (record found { tags = put key value found.tags }) was.edges })) (Some was) k)
      ] refl h) passes
  one_more (Untag v name key) rise passes =
      on_made (Untag v name key) (with_op time (Untag v name key) lists) refl (λ h. absurd cc) (λ live is h.
      let was : Record = record_at update (Some live.0) lists in
      let rest : Edge → Outcome = (λ (edge : Edge). cond (not (has key edge.tags)) (Err NoKey) (done_with (record was { edges = put name (record edge { tags = without_key key edge.tags }) was.edges }))) in
      elim (at_key name was.edges) as (λ (o : Option Edge). at_key name was.edges ≡ o → IsTrue (is_ok (on_edge o rest)) → Some (record_at update (Some live.0) (with_op time (Untag v name key) lists)) ≡ state_left (Some was) (on_edge o rest)) [
        | None ↦ λ e k. absurd cc
        | Some found ↦ λ e k. links_law name (Some key) None live (Some (record found { tags = without_key key found.tags })) rise.0 (tag_now name key None live found rise e)
            ∙ sym (left_if (not (has key found.tags)) NoKey (done_with (record was { edges = put name (record found { tags = without_key key found.tags }) was.edges })) (Some was) k)
      ] refl h) passes
  one_more (Get v) rise passes = refl

-- the changes that an operation counts for are as many as the items that it writes
pub one_item : (op : Op) → changes_of op ≡ items_of_written (written_by op)
one_item (Create v) = refl
one_item (Delete v) = refl
one_item (Set v key value) = refl
one_item (Unset v key) = refl
one_item (Link v name target) = refl
one_item (Join v name target) = refl
one_item (Unlink v name) = refl
one_item (Tag v name key value) = refl
one_item (Untag v name key) = refl
one_item (Get v) = refl
