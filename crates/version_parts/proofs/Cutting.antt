-- What a cut leaves: the states that it spares are as before.
-- Used by `collect`, `take_back` and Updating.
use Rattle.std.proofs.Common.{◌≡◌, ◌≤◌, ◌<◌, ◌⊎◌, inl, inr, ℕ, Bool, true, false, not, ◌&&◌, ◌||◌, cond, List, [], ◌∷◌, filter, Option, Some, None, is_some, refl, sym, ap, ◌∙◌, subst, arith}
use Rattle.std.specs.Prelude.{nat_le}
use Rattle.std.specs.Option.{option_map, option_and_then}
use Rattle.std.proofs.lemmas.Bool.{leb-true, leb-false, cases_lt, and_parts}
use Rattle.weave_data.specs.declared.name.Name.{Name}
use Rattle.version_parts.specs.declared.cut.Cut.{Cut}
use Rattle.version_parts.specs.declared.cut.Cut.TheVariants.{Newer, Older}
use Rattle.version_parts.specs.declared.edge.EdgeItems.{EdgeItems}
use Rattle.version_parts.specs.declared.lists.Lists.{Lists}
use Rattle.version_parts.specs.declared.time.Time.{Time}
use Rattle.version_parts.specs.declared.track.Item.{Item}
use Rattle.version_parts.specs.Counts.{has_items}
use Rattle.version_parts.specs.Cuts.{left_items, cut_tracks, cut_edge, left_edge, cut_edges, cut_lists, lists_until, collected_lists}
use Rattle.version_parts.specs.States.{Tracks, value_at, track_values_at, live_edge, edge_at, edges_at, record_at, state_at}
use Rattle.version_parts.specs.Staying.{StaysHidden, Spares}
use Rattle.version_parts.specs.Times.{beginning, is_later, counts}
use Rattle.version_parts.specs.Tracks.{or_else, unless_later, last_at, shown_value, live_at, since_at, from_oldest, cut_items, inner_cut}
use Rattle.version_parts.proofs.KeptLaws.{kept_alike, kept_twice}
use Rattle.version_parts.proofs.OneMore.{made_edge, made_record}
use Rattle.version_parts.proofs.Pushing.{not_later}
use Rattle.version_parts.proofs.Splitting.{in_time, too_late, or_none}

module _ {X : Type 0} where
  -- an item that is found is still found later
  found_on : (oldest update : ℕ) → oldest ≤ update → (items : List (Item X)) → is_some (last_at oldest items) ≡ true → is_some (last_at update items) ≡ true
  found_on oldest update on [] found = absurd cc
  found_on oldest update on (item ∷ rest) found =
      elim (last_at oldest rest) as (λ (o : Option (Item X)). last_at oldest rest ≡ o → is_some (or_else o (unless_later oldest item)) ≡ true → is_some (or_else (last_at update rest) (unless_later update item)) ≡ true) [
        | None ↦ λ e h. either (last_at update rest) (here (nat_le item.time.update oldest) refl h)
        | Some other ↦ λ e h. first (last_at update rest) (found_on oldest update on rest (ap is_some e))
      ] refl found
    where
      first : (o : Option (Item X)) → is_some o ≡ true → is_some (or_else o (unless_later update item)) ≡ true
      first None some = absurd cc
      first (Some other) some = refl

      either : (o : Option (Item X)) → is_some (unless_later update item) ≡ true → is_some (or_else o (unless_later update item)) ≡ true
      either None some = some
      either (Some other) some = refl

      here : (b : Bool) → nat_le item.time.update oldest ≡ b → is_some (cond b (Some item) None) ≡ true → is_some (unless_later update item) ≡ true
      here true is some = ap is_some (in_time update item (let before = leb-true item.time.update oldest is in omega (arith, before, on)))
      here false is some = absurd cc

  -- the last item is the same later, or one of a later update
  last_moves : (oldest update : ℕ) → oldest ≤ update → (items : List (Item X)) (item : Item X) → last_at update items ≡ Some item → (last_at oldest items ≡ Some item) ⊎ (oldest < item.time.update)
  last_moves oldest update on [] item is = absurd cc
  last_moves oldest update on (first ∷ rest) item is =
      elim (last_at update rest) as (λ (o : Option (Item X)). last_at update rest ≡ o → or_else o (unless_later update first) ≡ Some item → (or_else (last_at oldest rest) (unless_later oldest first) ≡ Some item) ⊎ (oldest < item.time.update)) [
        | None ↦ λ e h. alone (last_at oldest rest) refl e (nat_le first.time.update update) h
        | Some other ↦ λ e h. elim (last_moves oldest update on rest item (e ∙ h)) [
          | inl same ↦ inl (ap (λ (o : Option (Item X)). or_else o (unless_later oldest first)) same)
          | inr more ↦ inr more
        ]
      ] refl is
    where
      same_item : (b : Bool) → cond b (Some first) None ≡ Some item → first ≡ item
      same_item true h = cc
      same_item false h = absurd cc

      by_time : first ≡ item → (unless_later oldest first ≡ Some item) ⊎ (oldest < item.time.update)
      by_time same = elim (cases_lt oldest first.time.update) [
        | inl more ↦ inr (subst (λ (x : Item X). oldest < x.time.update) same more)
        | inr before ↦ inl (in_time oldest first before ∙ ap Some same)
      ]

      alone : (o : Option (Item X)) → last_at oldest rest ≡ o → last_at update rest ≡ None → (b : Bool) → cond b (Some first) None ≡ Some item → (or_else o (unless_later oldest first) ≡ Some item) ⊎ (oldest < item.time.update)
      alone None old none b h = by_time (same_item b h)
      alone (Some other) old none b h = absurd (let found = found_on oldest update on rest (ap is_some old) in let gone = ap is_some none in cc)

  -- an item that isn't shown, later
  stays_hidden : (oldest : ℕ) (since later_since : Option Time) (item : Item X) → item.time.update ≤ oldest → StaysHidden oldest since later_since → is_some (shown_value since item) ≡ false → shown_value later_since item ≡ None
  stays_hidden oldest since later_since item old hides hidden =
      elim (counts since item.time) as (λ b. counts since item.time ≡ b → is_some (cond b (option_map {U = Time × X} (λ (x : X). (item.time, x)) item.value) None) ≡ false → shown_value later_since item ≡ None) [
        | true ↦ λ e h. no_value item.value h
        | false ↦ λ e h. ap (λ b. cond b (option_map {U = Time × X} (λ (x : X). (item.time, x)) item.value) None) (hides item.time old e)
      ] refl hidden
    where
      never : (b : Bool) → cond b (option_map {U = Time × X} (λ (x : X). (item.time, x)) None) None ≡ None
      never true = refl
      never false = refl

      no_value : (value : Option X) → is_some (option_map {U = Time × X} (λ (x : X). (item.time, x)) value) ≡ false → cond (counts later_since item.time) (option_map {U = Time × X} (λ (x : X). (item.time, x)) value) None ≡ None
      no_value None h = never (counts later_since item.time)
      no_value (Some x) h = absurd cc

  newer_stay : (newest update : ℕ) → update ≤ newest → (items : List (Item X)) → last_at update (filter (λ (item : Item X). nat_le item.time.update newest) items) ≡ last_at update items
  newer_stay newest update within [] = refl
  newer_stay newest update within (item ∷ rest) =
      let before : last_at update (filter (λ (x : Item X). nat_le x.time.update newest) rest) ≡ last_at update rest = newer_stay newest update within rest in
      elim (nat_le item.time.update newest) as (λ b. nat_le item.time.update newest ≡ b → last_at update (cond b (item ∷ filter (λ (x : Item X). nat_le x.time.update newest) rest) (filter (λ (x : Item X). nat_le x.time.update newest) rest)) ≡ or_else (last_at update rest) (unless_later update item)) [
        | true ↦ λ e. ap (λ (o : Option (Item X)). or_else o (unless_later update item)) before
        | false ↦ λ e. let late : update < item.time.update = (let after = leb-false item.time.update newest e in omega (arith, after, within)) in
            before ∙ sym (ap (or_else (last_at update rest)) (too_late update item late) ∙ or_none (last_at update rest))
      ] refl

  older_stay : (oldest : ℕ) (oldest_since since : Option Time) (update : ℕ) → oldest ≤ update → StaysHidden oldest oldest_since since → (items : List (Item X)) → live_at update since (from_oldest oldest oldest_since items) ≡ live_at update since items
  older_stay oldest oldest_since since update on hides [] = refl
  older_stay oldest oldest_since since update on hides (item ∷ rest) =
      elim (is_some (last_at oldest rest)) as (λ b. is_some (last_at oldest rest) ≡ b → live_at update since (cond b (from_oldest oldest oldest_since rest) (cond (nat_le item.time.update oldest && not (is_some (shown_value oldest_since item))) rest (item ∷ rest))) ≡ option_and_then (shown_value since) (or_else (last_at update rest) (unless_later update item))) [
        | true ↦ λ e. older_stay oldest oldest_since since update on hides rest ∙ ap (option_and_then (shown_value since)) (over (last_at update rest) (found_on oldest update on rest e))
        | false ↦ λ e. elim (nat_le item.time.update oldest && not (is_some (shown_value oldest_since item))) as (λ b. (nat_le item.time.update oldest && not (is_some (shown_value oldest_since item))) ≡ b → live_at update since (cond b rest (item ∷ rest)) ≡ option_and_then (shown_value since) (or_else (last_at update rest) (unless_later update item))) [
          | true ↦ λ gone. dropped (and_parts (nat_le item.time.update oldest) (not (is_some (shown_value oldest_since item))) gone)
          | false ↦ λ stays. refl
        ] refl
      ] refl
    where
      over : (o : Option (Item X)) → is_some o ≡ true → o ≡ or_else o (unless_later update item)
      over None some = absurd cc
      over (Some other) some = refl

      not_true : (b : Bool) → not b ≡ true → b ≡ false
      not_true true h = absurd cc
      not_true false h = refl

      alone : (o : Option (Item X)) → unless_later update item ≡ Some item → shown_value since item ≡ None → option_and_then (shown_value since) o ≡ option_and_then (shown_value since) (or_else o (unless_later update item))
      alone None here hidden = sym (ap (option_and_then (shown_value since)) here ∙ hidden)
      alone (Some other) here hidden = refl

      dropped : (nat_le item.time.update oldest ≡ true) × (not (is_some (shown_value oldest_since item)) ≡ true) → live_at update since rest ≡ option_and_then (shown_value since) (or_else (last_at update rest) (unless_later update item))
      dropped facts =
          let old = leb-true item.time.update oldest facts.0 in
          alone (last_at update rest) (in_time update item (omega (arith, old, on))) (stays_hidden oldest oldest_since since item old hides (not_true (is_some (shown_value oldest_since item)) facts.1))

  -- what a part is after an update that the cut spares stays as it was
  pub live_stays : (cut : Cut) (update : ℕ) (since : Option Time) (items : List (Item X)) → Spares cut update since → live_at update since (cut_items cut items) ≡ live_at update since items
  live_stays (Newer newest) update since items spares = ap (option_and_then (shown_value since)) (newer_stay newest update spares items)
  live_stays (Older oldest oldest_since) update since items spares = older_stay oldest oldest_since since update spares.0 spares.1 items

  -- what a live item is

  shown_says : (since : Option Time) (item : Item X) (live : Time × X) → shown_value since item ≡ Some live → (item.time ≡ live.0) × (is_some (shown_value since item) ≡ true)
  shown_says since item live is = (by (counts since item.time) is, ap is_some is)
    where
      time_of : (value : Option X) → option_map {U = Time × X} (λ (x : X). (item.time, x)) value ≡ Some live → item.time ≡ live.0
      time_of None h = absurd cc
      time_of (Some x) h = let same : (item.time, x) ≡ live = cc in ap (λ (p : Time × X). p.0) same

      by : (b : Bool) → cond b (option_map {U = Time × X} (λ (x : X). (item.time, x)) item.value) None ≡ Some live → item.time ≡ live.0
      by true h = time_of item.value h
      by false h = absurd cc

  since_is : (o : Option (Time × X)) (time : Time) → is_some o ≡ true → ((live : Time × X) → o ≡ Some live → time ≡ live.0) → option_map (λ (live : Time × X). live.0) o ≡ Some time
  since_is None time some says = absurd cc
  since_is (Some live) time some says = ap Some (sym (says live refl))

  -- the parts of a part that is there, since it is
  hides_inner : (oldest : ℕ) (oldest_since since : Option Time) (update : ℕ) → oldest ≤ update → StaysHidden oldest oldest_since since → (items : List (Item X)) (live : Time × X) → live_at update since items ≡ Some live → StaysHidden oldest (since_at oldest oldest_since items) (Some live.0)
  hides_inner oldest oldest_since since update on hides items live is time old hidden =
      elim (last_at update items) as (λ (o : Option (Item X)). last_at update items ≡ o → option_and_then (shown_value since) o ≡ Some live → is_later time live.0 ≡ false) [
        | None ↦ λ e h. absurd cc
        | Some item ↦ λ e h. elim (last_moves oldest update on items item e) [
          | inl same ↦ by_same item same h (is_some (shown_value oldest_since item)) refl (nat_le item.time.update oldest) refl
          | inr more ↦ not_later time live.0 (let at = (shown_says since item live h).0 in inl (let below : time.update < item.time.update = omega (arith, old, more) in subst (λ (t : Time). time.update < t.update) at below))
        ]
      ] refl is
    where
      by_same : (item : Item X) → last_at oldest items ≡ Some item → shown_value since item ≡ Some live → (b : Bool) → is_some (shown_value oldest_since item) ≡ b → (early : Bool) → nat_le item.time.update oldest ≡ early → is_later time live.0 ≡ false
      by_same item same shows true some before before_is =
          let since_same : since_at oldest oldest_since items ≡ Some item.time =
          ap (λ (o : Option (Item X)). option_map (λ (l : Time × X). l.0) (option_and_then (shown_value oldest_since) o)) same
          ∙ since_is (shown_value oldest_since item) item.time some (λ l e. (shown_says oldest_since item l e).0) in
          let at = (shown_says since item live shows).0 in
          sym (ap (λ (s : Option Time). counts s time) (since_same ∙ ap Some at)) ∙ hidden
      by_same item same shows false none true before =
          absurd (let gone = stays_hidden oldest oldest_since since item (leb-true item.time.update oldest before) hides none in cc)
      by_same item same shows false none false after =
          not_later time live.0 (let at = (shown_says since item live shows).0 in let more = leb-false item.time.update oldest after in inl (let below : time.update < item.time.update = omega (arith, old, more) in subst (λ (t : Time). time.update < t.update) at below))

  inner_spares : (cut : Cut) (update : ℕ) (since : Option Time) (items : List (Item X)) (live : Time × X) → Spares cut update since → live_at update since items ≡ Some live → Spares (inner_cut cut items) update (Some live.0)
  inner_spares (Newer newest) update since items live spares is = spares
  inner_spares (Older oldest oldest_since) update since items live spares is = (spares.0, hides_inner oldest oldest_since since update spares.0 spares.1 items live is)

-- Lists by name

value_left : (update : ℕ) (since : Option Time) (items : List (Item Name)) → option_and_then (value_at update since) (cond (has_items items) (Some items) None) ≡ value_at update since items
value_left update since [] = refl
value_left update since (item ∷ rest) = refl

values_stay : (cut : Cut) (update : ℕ) (since : Option Time) (tracks : Tracks) → Spares cut update since → track_values_at update since (cut_tracks cut tracks) ≡ track_values_at update since tracks
values_stay cut update since tracks spares =
    kept_twice (left_items cut) (value_at update since) tracks
    ∙ kept_alike (λ (items : List (Item Name)). option_and_then (value_at update since) (left_items cut items)) (value_at update since) (λ items.
    value_left update since (cut_items cut items) ∙ ap (option_map (λ (live : Time × Name). live.1)) (live_stays cut update since items spares)) tracks

edge_left : (update : ℕ) (since : Option Time) (targets : List (Item Name)) (tags : Tracks) → option_and_then (edge_at update since) (cond (has_items targets || has_items tags) (Some (record { targets = targets; tags = tags })) None) ≡ edge_at update since (record { targets = targets; tags = tags })
edge_left update since (item ∷ rest) tags = refl
edge_left update since [] tags =
    elim (has_items tags) as (λ b. option_and_then (edge_at update since) (cond b (Some (record { targets = []; tags = tags })) None) ≡ None) [
      | true ↦ refl
      | false ↦ refl
    ]

edge_stays : (cut : Cut) (update : ℕ) (since : Option Time) (edge : EdgeItems) → Spares cut update since → edge_at update since (cut_edge cut edge) ≡ edge_at update since edge
edge_stays cut update since edge spares =
    ap (option_map (live_edge update (cut_tracks (inner_cut cut edge.targets) edge.tags))) (live_stays cut update since edge.targets spares)
    ∙ elim (live_at update since edge.targets) as (λ (o : Option (Time × Name)). live_at update since edge.targets ≡ o → option_map (live_edge update (cut_tracks (inner_cut cut edge.targets) edge.tags)) o ≡ option_map (live_edge update edge.tags) o) [
      | None ↦ λ e. refl
      | Some live ↦ λ e. ap (λ (tags : List (Name × Name)). Some (made_edge live.1 tags)) (values_stay (inner_cut cut edge.targets) update (Some live.0) edge.tags (inner_spares cut update since edge.targets live spares e))
    ] refl

edges_stay : (cut : Cut) (update : ℕ) (since : Option Time) (edges : List (Name × EdgeItems)) → Spares cut update since → edges_at update since (cut_edges cut edges) ≡ edges_at update since edges
edges_stay cut update since edges spares =
    kept_twice (left_edge cut) (edge_at update since) edges
    ∙ kept_alike (λ (edge : EdgeItems). option_and_then (edge_at update since) (left_edge cut edge)) (edge_at update since) (λ edge.
    edge_left update since (cut_items cut edge.targets) (cut_tracks (inner_cut cut edge.targets) edge.tags) ∙ edge_stays cut update since edge spares) edges

-- the states that the cut spares
pub state_stays : (cut : Cut) (update : ℕ) (lists : Lists) → Spares cut update (Some beginning) → state_at update (cut_lists cut lists) ≡ state_at update lists
state_stays cut update lists spares =
    ap (option_map (λ (live : Time × Unit {0}). record_at update (Some live.0) (cut_lists cut lists))) (live_stays cut update (Some beginning) lists.presence spares)
    ∙ elim (live_at update (Some beginning) lists.presence) as (λ (o : Option (Time × Unit {0})). live_at update (Some beginning) lists.presence ≡ o → option_map (λ (live : Time × Unit {0}). record_at update (Some live.0) (cut_lists cut lists)) o ≡ option_map (λ (live : Time × Unit {0}). record_at update (Some live.0) lists) o) [
      | None ↦ λ e. refl
      | Some live ↦ λ e.
          let inner : Spares (inner_cut cut lists.presence) update (Some live.0) = inner_spares cut update (Some beginning) lists.presence live spares e in
          let props : track_values_at update (Some live.0) (cut_tracks (inner_cut cut lists.presence) lists.props) ≡ track_values_at update (Some live.0) lists.props = values_stay (inner_cut cut lists.presence) update (Some live.0) lists.props inner in
          let edges : edges_at update (Some live.0) (cut_edges (inner_cut cut lists.presence) lists.edges) ≡ edges_at update (Some live.0) lists.edges = edges_stay (inner_cut cut lists.presence) update (Some live.0) lists.edges inner in
          λ i. Some (made_record (props i) (edges i))
    ] refl

-- dropping the items after an update leaves the state after it, and after each before it, as it was
pub until_stays : (newest update : ℕ) (lists : Lists) → update ≤ newest → state_at update (lists_until newest lists) ≡ state_at update lists
until_stays newest update lists within = state_stays (Newer newest) update lists within

-- a collection leaves the state after the oldest update, and after each later one, as it was
pub collected_stays : (oldest update : ℕ) (lists : Lists) → oldest ≤ update → state_at update (collected_lists oldest lists) ≡ state_at update lists
collected_stays oldest update lists on = state_stays (Older oldest (Some beginning)) update lists (on, λ time old hidden. hidden)
