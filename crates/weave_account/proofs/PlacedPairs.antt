-- The pairs that are computed from the logs are those of the account. It rests on the clauses on the oracle, the
-- store, gatekeepers and shards, and on "the updates applied are the first commits".
-- Used by `placed_pairs_are_the_pairs`, BegunElsewhere, InSession, KnownClocks, OneReport, PairEnds, PhaseOrder,
-- PhasePrecedence and crates weaver_core and weaver_top.
use Rattle.std.proofs.Common.{◌≡◌, ◌≢◌, ℕ, zero, suc, ◌-◌, ◌<◌, Bool, true, false, not, cond, ◌==◌, ◌&&◌, ◌||◌, List, [], ◌∷◌, ◌++◌, map, take, length, Contains, IsTrue, Option, Some, None, ◌⊎◌, inl, inr, refl, sym, ap, subst, ◌∙◌, arith}
use Rattle.std.specs.Prelude.{slice_get, IsSomeAnd, reverse}
use Rattle.std.specs.List.{find, filter_map, flat_map, cons_option, list_any}
use Rattle.std.specs.Option.{option_map, option_and_then, option_or}
use Rattle.std.proofs.lemmas.Bool.{cases_eq, or_cases, and_parts, and_from, eq-eqb, eqb-true}
use Rattle.std.proofs.lemmas.List.Concat.{flat_map-append}
use Rattle.std.proofs.lemmas.List.Elements.{Contains-append_left}
use Rattle.std.proofs.lemmas.Option.{slice_get-map}
use Rattle.weave_data.proofs.Members.{has_none, has_read, has_head, has_tail, has_cut, has_map, any_from, any_has, find_has, find_lacks, filter_has, cut_at}
use Rattle.weave_data.proofs.Ordered.{pairs_cases}
use Rattle.weave_data.specs.declared.name.Name.{Name}
use Rattle.graph_ops.specs.Mentions.{named_by}
use Rattle.graph_ops.specs.declared.op.Op.{Op}
use Rattle.vector_stamp.specs.declared.clock.Stamp.{Stamp}
use Rattle.vector_stamp.specs.Order.{are_apart, id_before, same_stamp, stamp_before, unordered}
use Rattle.vector_stamp.specs.Precedence.{GivenPair}
use Rattle.vector_stamp.specs.Seeing.{last_seen}
use Rattle.vector_stamp.specs.Settling.{SettledEntry, additions_from}
use Rattle.program_defs.specs.declared.script.Request.{Request}
use Rattle.program_defs.specs.declared.script.Script.{Script}
use Rattle.program_defs.specs.declared.script.Work.TheVariants.{Change, Look}
use Rattle.weave_entries.specs.declared.oracle_log.OracleEntry.{OracleEntry}
use Rattle.weave_entries.specs.declared.shard_log.ShardEntry.{ShardEntry}
use Rattle.weave_entries.specs.declared.store_log.StoreEntry.{StoreEntry}
use Rattle.weave_entries.specs.GateReplay.{BegunRequest}
use Rattle.weave_entries.specs.OracleReplay.{settled_entry, pairs_of_entry}
use Rattle.weave_entries.specs.OracleRules.{IsRightEntry, IsRightFrom}
use Rattle.weave_entries.specs.ShardReplay.{Update, Visit, visit_by, visits_of, updates_of}
use Rattle.weave_entries.specs.StoreReplay.{Commit, Judgement, judged_by, judgements_of, commit_by, commits_of, commits_naming, last_naming, names_vertex as names}
use Rattle.weave_entries.specs.StoreRule.{LastCommit, lasts_of, asked_of, asked_vertices}
use Rattle.weave_entries.proofs.OwnStamps.{tx-begun}
use Rattle.report_rules.specs.declared.report.Pair.{Pair}
use Rattle.report_rules.specs.Lookups.{is_some_and, request_at}
use Rattle.weave_account.specs.declared.account.Account.{Account}
use Rattle.weave_account.specs.Account.{all_begun, commits_in, gate_log, pairs_in, shard_log, stamp_of}
use Rattle.weave_account.specs.Oracle.{IsAskedByCommit, IsAskedByVisit, seen_last}
use Rattle.weave_account.specs.Pairs.{first_after, IsPairInAccount, ArePairsOf}
use Rattle.weave_account.specs.PairsByPlace.{request_stamped, vertex_asked, added_at, vertex_visited, placed_pair, placed_by, placed_pairs}
use Rattle.weave_account.specs.Shards.{update_of}
use Rattle.weave_account.proofs.Additions.{first-place}
use Rattle.weave_account.proofs.Basis.{Basis}
use Rattle.weave_account.proofs.Beginning.{all-in, list-there}
use Rattle.weave_account.proofs.Meeting.{visit-fits, visit-stamp}
use Rattle.weave_data.proofs.Images.{flat-has, get-has, map-has}
use Rattle.weave_account.proofs.RepliesClause.{begin-of, stamps-apart}
use Rattle.weave_account.proofs.Replying.{place-of}
use Rattle.weave_account.proofs.Storing.{IsOfScript, commit-of, of-script}
use Rattle.weave_account.proofs.Updates.{shows}
use Rattle.weave_account.proofs.ConflictsClause.{reverse-has}
use Rattle.weave_account.proofs.VisitedPairs.{program-begun}

-- Lists

-- the element at a place of the first ones is that of the list
get-front : {A : Type 0} (n : ℕ) (xs : List A) (i : ℕ) (x : A) → slice_get (take n xs) i ≡ Some x → slice_get xs i ≡ Some x
get-front zero xs i x e = cc
get-front (suc n) [] i x e = cc
get-front (suc n) (y ∷ xs) zero x e = e
get-front (suc n) (y ∷ xs) (suc i) x e = get-front n xs i x e

-- what is left of `filter_map` comes from a member
filter_map-from : {A B : Type 0} (f : A → Option B) (xs : List A) (y : B) → Contains (filter_map f xs) y
    → (x : A) × Contains xs x × (f x ≡ Some y)
filter_map-from f [] y h = absurd (has_none y h)
filter_map-from {A = A} {B = B} f (x ∷ xs) y h = at (f x) refl h (filter_map-from f xs y)
  where
    at : (o : Option B) → f x ≡ o → Contains (cons_option o (filter_map f xs)) y
        → (Contains (filter_map f xs) y → (z : A) × Contains xs z × (f z ≡ Some y))
        → (z : A) × Contains (x ∷ xs) z × (f z ≡ Some y)
    at None e g rest = let r = rest g in (r.0, has_tail x xs r.0 r.1, r.2)
    at (Some first) e g rest = elim (has_read first (filter_map f xs) y g) [
      | inl same ↦ (x, has_head x xs, e ∙ ap Some same)
      | inr later ↦ (let r = rest later in (r.0, has_tail x xs r.0 r.1, r.2))
    ]

-- the first image that passes is that at a place where none before passes
find-first : {A B : Type 0} (f : A → B) (test : B → Bool) (xs : List A) (p : ℕ) (x : A) → slice_get xs p ≡ Some x
    → IsTrue (test (f x)) → ((q : ℕ) (y : A) → q < p → slice_get xs q ≡ Some y → ¬ IsTrue (test (f y)))
    → find test (map f xs) ≡ Some (f x)
find-first f test [] p x e t none = cc
find-first f test (y ∷ xs) zero x e t none =
    let same : y ≡ x = cc in
    ap (λ b. cond b (Some (f y)) (find test (map f xs))) (ap (λ z. test (f z)) same ∙ t) ∙ ap (λ z. Some (f z)) same
find-first f test (y ∷ xs) (suc p) x e t none =
    at (test (f y)) refl (find-first f test xs p x e t (λ q z less there. none (suc q) z (omega (arith, less)) there))
  where
    at : (b : Bool) → test (f y) ≡ b → find test (map f xs) ≡ Some (f x) → cond b (Some (f y)) (find test (map f xs)) ≡ Some (f x)
    at true is rest = absurd (none 0 y (omega arith) refl is)
    at false is rest = rest

-- the last of the first n elements is that before place n
seen-get : (n : ℕ) (stamps : List Stamp) (s : Stamp) → Contains (last_seen n stamps) s
    → (0 < n) × (slice_get stamps (n - 1) ≡ Some s)
seen-get zero stamps s h = absurd (has_none s h)
seen-get (suc n) [] s h = absurd (has_none s h)
seen-get (suc zero) (x ∷ stamps) s h =
    elim (has_read x [] s h) [ inl same ↦ (omega arith, ap Some same) | inr none ↦ absurd (has_none s none) ]
seen-get (suc (suc n)) (x ∷ stamps) s h =
    let one : suc (suc n) - 1 ≡ suc n = omega arith in
    let two : suc n - 1 ≡ n = omega arith in
    (omega arith, subst (λ k. slice_get (x ∷ stamps) k ≡ Some s) (sym one) (subst (λ k. slice_get stamps k ≡ Some s) two (seen-get (suc n) stamps s h).1))

-- the last commit that names a vertex, of those that the store looks at
last-is : (ops : List Op) (commits : List Commit) (last : LastCommit) → Contains (lasts_of ops commits) last
    → last_naming last.vertex commits ≡ Some last.commit
last-is ops commits last h =
    let from =
    filter_map-from (λ (v : Name). option_map (λ (commit : Commit). record { vertex = v; commit = commit }) (last_naming v commits))
    (named_by ops) last h in
    at from.0 (last_naming from.0 commits) refl from.2
  where
    at : (v : Name) (o : Option Commit) → last_naming v commits ≡ o
        → option_map (λ (commit : Commit). record { vertex = v; commit = commit }) o ≡ Some last
        → last_naming last.vertex commits ≡ Some last.commit
    at v None is e = cc
    at v (Some c) is e =
        let same : record { vertex = v; commit = c } ≡ last = cc in
        subst (λ (l : LastCommit). last_naming l.vertex commits ≡ Some l.commit) same is

-- the visit that added a pair, in the first shard that has one
record IsFound (shards : List (List ShardEntry)) (earlier later : Stamp) : Type 0 where
  log : List ShardEntry
  there : Contains shards log
  visit : Visit
  visited : Contains (visits_of log) visit
  added : IsTrue (added_at earlier later log visit)
  is : vertex_visited shards earlier later ≡ Some visit.vertex

found-visit : (shards : List (List ShardEntry)) (earlier later : Stamp) (log : List ShardEntry) (visit : Visit)
    → Contains shards log → Contains (visits_of log) visit → IsTrue (added_at earlier later log visit)
    → IsFound shards earlier later
found-visit [] earlier later log visit h v t = absurd (has_none log h)
found-visit (first ∷ shards) earlier later log visit h v t =
    at (find (added_at earlier later first) (visits_of first)) refl (λ more. found-visit shards earlier later log visit more v t)
  where
    at : (o : Option Visit) → find (added_at earlier later first) (visits_of first) ≡ o
        → (Contains shards log → IsFound shards earlier later) → IsFound (first ∷ shards) earlier later
    at (Some w) e rest =
        let found = find_has (added_at earlier later first) (visits_of first) w e in
        record { log = first; there = has_head first shards; visit = w; visited = found.0; added = found.1; is = ap (λ o. option_or (option_map (λ (k : Visit). k.vertex) o) (vertex_visited shards earlier later)) e }
    at None e rest = elim (has_read first shards log h) [
      | inl same ↦ absurd (find_lacks (added_at earlier later first) (visits_of first) visit e (subst (λ l. Contains (visits_of l) visit) (sym same) v) (subst (λ l. IsTrue (added_at earlier later l visit)) (sym same) t))
      | inr more ↦
          let found = rest more in
          record { log = found.log; there = has_tail first shards found.log found.there; visit = found.visit; visited = found.visited; added = found.added; is = ap (λ o. option_or (option_map (λ (k : Visit). k.vertex) o) (vertex_visited shards earlier later)) e ∙ found.is }
    ]

-- Pairs of two lists, one after the other
pub are-append : (account : Account) (ps qs : List Pair) (gs hs : List GivenPair) → ArePairsOf account ps gs → ArePairsOf account qs hs
    → ArePairsOf account (ps ++ qs) (gs ++ hs)
are-append account [] qs [] hs are more = more
are-append account [] qs (g ∷ gs) hs are more = absurd are
are-append account (p ∷ ps) qs [] hs are more = absurd are
are-append account (p ∷ ps) qs (g ∷ gs) hs are more = (are.0, are-append account ps qs gs hs are.1 more)

not-not-both : (b : Bool) → IsTrue b → IsTrue (not b) → ⊥
not-not-both true h g = cc
not-not-both false h g = cc

-- the commit is there, and has this stamp
abbrev IsStamped : Option Commit → Stamp → Type 0
IsStamped commit event = option_map (λ (c : Commit). c.stamp) commit ≡ Some event

-- the last commit that a visit read of its vertex, of those that its shard has applied
abbrev last-read : Account → ℕ → Visit → Option Commit
last-read account shard visit =
    slice_get (take (length (updates_of visit.vertex (shard_log account shard))) (commits_naming visit.vertex (commits_in account)))
    (visit.updates - 1)

module _ (script : Script) (account : Account) (basis : Basis script account) where
  -- A stamp is of one request

  not-apart : (s : Stamp) → ¬ IsTrue (are_apart s s)
  not-apart s t =
      elim (or_cases (not (s.home == s.home) || (id_before s s && stamp_before s s)) (id_before s s && stamp_before s s) t) [
        | inl first ↦ elim (or_cases (not (s.home == s.home)) (id_before s s && stamp_before s s) first) [
          | inl other ↦ not-not-both (s.home == s.home) (eq-eqb s.home s.home refl) other
          | inr before ↦ basis.laws.irreflexive s (and_parts _ _ before).1
        ]
        | inr after ↦ basis.laws.irreflexive s (and_parts _ _ after).1
      ]

  -- two begun requests with the same stamp are the same
  pub one-request : (a b : BegunRequest) → Contains (all_begun account) a → Contains (all_begun account) b → a.stamp ≡ b.stamp
      → a.request ≡ b.request
  one-request a b ha hb same =
      elim (cases_eq a.request b.request) [
        | inl is ↦ is
        | inr differ ↦ absurd (not-apart b.stamp (subst (λ s. IsTrue (are_apart s b.stamp)) same (stamps-apart script account basis a b ha hb differ)))
      ]

  -- the request with a stamp
  pub request-is : (r : ℕ) (stamp : Stamp) → stamp_of account r ≡ Some stamp → request_stamped account stamp ≡ Some r
  request-is r stamp e =
      at (begin-of script account basis r stamp e) (find (λ (b : BegunRequest). same_stamp b.stamp stamp) (all_begun account)) refl
    where
      at : (b : BegunRequest) × Contains (all_begun account) b × (b.request ≡ r) × (b.stamp ≡ stamp) → (o : Option BegunRequest)
          → find (λ (b : BegunRequest). same_stamp b.stamp stamp) (all_begun account) ≡ o
          → option_map (λ (b : BegunRequest). b.request) o ≡ Some r
      at b None is =
          absurd (find_lacks (λ (k : BegunRequest). same_stamp k.stamp stamp) (all_begun account) b.0 is b.1 ((basis.laws.same_stamps (b.0).stamp stamp).1 b.3))
      at b (Some k) is =
          let found = find_has (λ (k : BegunRequest). same_stamp k.stamp stamp) (all_begun account) k is in
          ap Some (one-request k b.0 found.0 b.1 ((basis.laws.same_stamps k.stamp stamp).0 found.1 ∙ sym b.3) ∙ b.2)

  -- the begin of a judgement
  pub judged-begun : (judged : Judgement) → Contains (judgements_of account.store) judged
      → (b : BegunRequest) × Contains (all_begun account) b × (b.request ≡ judged.request) × (b.stamp ≡ judged.stamp)
  judged-begun judged h =
      let from = map-has (λ (e : StoreEntry). judged_by e.author e.deed) account.store judged h in
      let place = cut_at account.store from.of from.has in
      let rule = basis.is.store.judges place.before from.of place.after place.is in
      (_, all-in account rule.home _ (tx-begun (gate_log account rule.home) _ rule.begun), ap (λ (j : Judgement). j.request) from.is, ap (λ (j : Judgement). j.stamp) from.is)

  -- the judgement with a stamp
  judgement-is : (judged : Judgement) → Contains (judgements_of account.store) judged
      → find (λ (j : Judgement). same_stamp j.stamp judged.stamp) (judgements_of account.store) ≡ Some judged
  judgement-is judged h = at (find (λ (j : Judgement). same_stamp j.stamp judged.stamp) (judgements_of account.store)) refl
    where
      at : (o : Option Judgement) → find (λ (j : Judgement). same_stamp j.stamp judged.stamp) (judgements_of account.store) ≡ o
          → o ≡ Some judged
      at None is =
          absurd (find_lacks (λ (j : Judgement). same_stamp j.stamp judged.stamp) (judgements_of account.store) judged is h ((basis.laws.same_stamps judged.stamp judged.stamp).1 refl))
      at (Some j) is =
          let found = find_has (λ (j : Judgement). same_stamp j.stamp judged.stamp) (judgements_of account.store) j is in
          let a = judged-begun j found.0 in
          let b = judged-begun judged h in
          let request : j.request ≡ judged.request =
          sym a.2 ∙ one-request a.0 b.0 a.1 b.1 (a.3 ∙ (basis.laws.same_stamps j.stamp judged.stamp).0 found.1 ∙ sym b.3) ∙ b.2 in
          ap Some (elim (pairs_cases (λ (x y : Judgement). x.request ≢ y.request) (judgements_of account.store) basis.is.store.once j judged found.0 h) [
            | inl same ↦ same
            | inr (inl differ) ↦ absurd (differ request)
            | inr (inr differ) ↦ absurd (differ (sym request))
          ])

  -- a commit is of a begun request with its stamp
  pub commit-known : (commit : Commit) → Contains (commits_in account) commit → IsOfScript script account commit
  commit-known = of-script script account basis.is.gatekeepers.once account.store basis.is.store.judges

  -- An entry's pairs

  -- a pair of an entry, with its requests and its vertex
  record IsPlaced (settled : SettledEntry) (place : ℕ) : Type 0 where
    event : Stamp
    event_is : slice_get settled.earlier place ≡ Some event
    pair : Pair
    pair_is : placed_pair account place (event, settled.later) ≡ Some pair
    right : IsPairInAccount account pair (event, settled.later)

  placed-is : (place : ℕ) (given : GivenPair) (a b : ℕ) (v : Name) → request_stamped account given.0 ≡ Some a
      → request_stamped account given.1 ≡ Some b
      → option_or (vertex_asked account.store given.1 place) (vertex_visited account.shards given.0 given.1) ≡ Some v
      → placed_pair account place given ≡ Some (record { vertex = v; earlier = a; later = b })
  placed-is place given a b v ea eb ev =
      ap (λ o. option_and_then (λ (earlier : ℕ). option_and_then (λ (later : ℕ). option_map (λ (v : Name). record { vertex = v; earlier = earlier; later = later }) (option_or (vertex_asked account.store given.1 place) (vertex_visited account.shards given.0 given.1))) (request_stamped account given.1)) o) ea
      ∙ ap (λ o. option_and_then (λ (later : ℕ). option_map (λ (v : Name). record { vertex = v; earlier = a; later = later }) (option_or (vertex_asked account.store given.1 place) (vertex_visited account.shards given.0 given.1))) o) eb
      ∙ ap (λ o. option_map (λ (v : Name). record { vertex = v; earlier = a; later = b }) o) ev

  -- the event for which a pair was added
  added-event : (pairs : List GivenPair) (settled : SettledEntry) → IsRightEntry pairs settled → (place : ℕ)
      → Contains settled.places place
      → (event : Stamp) × Contains (additions_from 0 pairs settled.earlier settled.later) (place, event)
  added-event pairs settled right place h =
      let image =
      map-has (λ (a : ℕ × Stamp). a.0) (additions_from 0 pairs settled.earlier settled.later) place (subst (λ ps. Contains ps place) right.added h) in
      ((image.of).1, subst (λ k. Contains (additions_from 0 pairs settled.earlier settled.later) (k, (image.of).1)) image.is image.has)

  -- the last commits that a commit's entry is about
  abbrev pub lasts-at : (settled : SettledEntry) → IsAskedByCommit account settled → List LastCommit
  lasts-at settled asked = asked_of (asked.commit).stamp (lasts_of (asked.commit).ops (commits_of asked.before))

  earlier-known : (before rest : List StoreEntry) → account.store ≡ before ++ rest → (commit : Commit)
      → Contains (commits_of before) commit → IsOfScript script account commit
  earlier-known before rest is commit h =
      commit-known commit
      (subst (λ cs. Contains cs commit) (sym (ap commits_of is ∙ flat_map-append (λ (e : StoreEntry). commit_by e.deed) before rest)) (Contains-append_left (commits_of before) (commits_of rest) commit h))

  -- a last commit is one of the commits before, with its stamp
  pub last-known : (settled : SettledEntry) (asked : IsAskedByCommit account settled) (last : LastCommit)
      → Contains (lasts-at settled asked) last
      → (last_naming last.vertex (commits_of asked.before) ≡ Some last.commit) × (stamp_of account (last.commit).request ≡ Some (last.commit).stamp)
  last-known settled asked last h =
      let parts =
      filter_has (λ (l : LastCommit). unordered l.commit.stamp (asked.commit).stamp) (lasts_of (asked.commit).ops (commits_of asked.before)) last h in
      let is = last-is (asked.commit).ops (commits_of asked.before) last parts.0 in
      let found = find_has (names last.vertex) (reverse (commits_of asked.before)) last.commit is in
      (is, (earlier-known asked.before (asked.entry ∷ asked.after) asked.at last.commit (reverse-has (commits_of asked.before) last.commit found.0)).stamp)

  module _ (pairs : List GivenPair) (settled : SettledEntry) (right : IsRightEntry pairs settled) (place : ℕ) (there : Contains settled.places place) where
    -- A commit asked

    commit-placed : (asked : IsAskedByCommit account settled) (event : Stamp)
        → Contains (additions_from 0 pairs settled.earlier settled.later) (place, event)
        → slice_get settled.earlier place ≡ Some event
        → (last : LastCommit) → slice_get (lasts-at settled asked) place ≡ Some last → (last.commit).stamp ≡ event
        → IsPlaced settled place
    commit-placed asked event added in-place last last-at stamp-is =
        let lasts = lasts-at settled asked in
        let judged = judged_by (asked.entry).author (asked.entry).deed in
        let of =
        commit-of (asked.entry).author (asked.entry).deed asked.commit
        (subst (λ cs. Contains cs asked.commit) (sym asked.commit_is) (has_head asked.commit [])) in
        let in-store : Contains account.store asked.entry =
        subst (λ l. Contains l asked.entry) (sym asked.at) (has_cut asked.before asked.entry asked.after) in
        let rule = basis.is.store.judges asked.before asked.entry asked.after asked.at in
        let asked-are : judged.asked ≡ map (λ (l : LastCommit). l.vertex) lasts =
        rule.asked ∙ ap (λ s. asked_vertices s (lasts_of judged.ops (commits_of asked.before))) of.stamp
        ∙ ap (λ ops. asked_vertices (asked.commit).stamp (lasts_of ops (commits_of asked.before))) of.ops in
        let first = last-known settled asked last (get-has lasts place last last-at) in
        let commit-there : Contains (commits_in account) asked.commit =
        subst (λ cs. Contains cs asked.commit)
        (sym (ap commits_of asked.at ∙ flat_map-append (λ (e : StoreEntry). commit_by e.deed) asked.before (asked.entry ∷ asked.after) ∙ ap (λ cs. commits_of asked.before ++ (cs ++ commits_of asked.after)) asked.commit_is))
        (has_cut (commits_of asked.before) asked.commit (commits_of asked.after)) in
        let earlier-is : stamp_of account (last.commit).request ≡ Some event = first.1 ∙ ap Some stamp-is in
        let later-is : stamp_of account (asked.commit).request ≡ Some settled.later =
        (commit-known asked.commit commit-there).stamp ∙ ap Some (sym asked.later_is) in
        let vertex : vertex_asked account.store settled.later place ≡ Some last.vertex =
        ap (λ s. vertex_asked account.store s place) (asked.later_is ∙ sym of.stamp)
        ∙ ap (option_and_then (λ (j : Judgement). slice_get j.asked place))
        (judgement-is judged (has_map (λ (e : StoreEntry). judged_by e.author e.deed) account.store asked.entry in-store))
        ∙ ap (λ vs. slice_get vs place) asked-are
        ∙ slice_get-map (λ (l : LastCommit). l.vertex) lasts place
        ∙ ap (option_map (λ (l : LastCommit). l.vertex)) last-at in
        record {
          event = event;
          event_is = in-place;
          pair = record { vertex = last.vertex; earlier = (last.commit).request; later = (asked.commit).request };
          pair_is = placed-is place (event, settled.later) (last.commit).request (asked.commit).request last.vertex (request-is _ event earlier-is) (request-is _ settled.later later-is)
              (ap (λ o. option_or o (vertex_visited account.shards event settled.later)) vertex);
          right = record {
            earlier_is = earlier-is;
            later_is = later-is;
            added = inl (record {
              before = asked.before;
              entry = asked.entry;
              after = asked.after;
              at = asked.at;
              commit = asked.commit;
              commit_is = asked.commit_is;
              later_is = refl;
              vertex_is =
                  ap (first_after (commits_of asked.before) (last.commit).request) asked-are
                  ∙ find-first (λ (l : LastCommit). l.vertex)
                  (λ v. is_some_and (λ (c : Commit). c.request == (last.commit).request) (last_naming v (commits_of asked.before))) lasts place last last-at
                  (subst (λ o. IsTrue (is_some_and (λ (c : Commit). c.request == (last.commit).request) o)) (sym first.0) (eq-eqb (last.commit).request (last.commit).request refl))
                  (λ q l less l-at test. none-before asked event added last stamp-is first.1 q l less l-at test);
            });
          };
        }
      where
        none-before : (asked : IsAskedByCommit account settled) (event : Stamp)
            → Contains (additions_from 0 pairs settled.earlier settled.later) (place, event) → (last : LastCommit)
            → (last.commit).stamp ≡ event → stamp_of account (last.commit).request ≡ Some (last.commit).stamp
            → (q : ℕ) (l : LastCommit) → q < place → slice_get (lasts-at settled asked) q ≡ Some l
            → IsTrue (is_some_and (λ (c : Commit). c.request == (last.commit).request) (last_naming l.vertex (commits_of asked.before)))
            → ⊥
        none-before asked event added last stamp-is known q l less l-at test =
            let other = last-known settled asked l (get-has (lasts-at settled asked) q l l-at) in
            let request : (l.commit).request ≡ (last.commit).request =
            eqb-true _ _ (subst (λ o. IsTrue (is_some_and (λ (c : Commit). c.request == (last.commit).request) o)) other.0 test) in
            let stamps : Some (l.commit).stamp ≡ Some (last.commit).stamp = sym other.1 ∙ ap (stamp_of account) request ∙ known in
            let same : (l.commit).stamp ≡ (last.commit).stamp = cc in
            first-place basis.laws 0 pairs settled.earlier settled.later event place q added
            (ap (λ xs. slice_get xs q) asked.earlier_are ∙ slice_get-map (λ (k : LastCommit). k.commit.stamp) (lasts-at settled asked) q ∙ ap (option_map (λ (k : LastCommit). k.commit.stamp)) l-at ∙ ap Some (same ∙ stamp-is))
            (omega (arith, less))

    by-commit : IsAskedByCommit account settled → IsPlaced settled place
    by-commit asked =
        at added.0 added.1 in-place (slice_get (lasts-at settled asked) place) refl
        (sym (slice_get-map (λ (l : LastCommit). l.commit.stamp) (lasts-at settled asked) place) ∙ ap (λ xs. slice_get xs place) (sym asked.earlier_are) ∙ in-place)
      where
        added : (event : Stamp) × Contains (additions_from 0 pairs settled.earlier settled.later) (place, event)
        added = added-event pairs settled right place there

        in-place : slice_get settled.earlier place ≡ Some added.0
        in-place = basis.laws.in_place pairs settled.earlier settled.later place added.0 added.1

        at : (event : Stamp) → Contains (additions_from 0 pairs settled.earlier settled.later) (place, event)
            → slice_get settled.earlier place ≡ Some event → (o : Option LastCommit)
            → slice_get (lasts-at settled asked) place ≡ o
            → option_map (λ (l : LastCommit). l.commit.stamp) o ≡ Some event → IsPlaced settled place
        at event h e None is g = cc
        at event h e (Some last) is g =
            let stamp : (last.commit).stamp ≡ event = cc in commit-placed asked event h e last is stamp

    -- A visit asked

    -- no transaction was judged with a program's stamp
    none-asked : (shard : ℕ) (visit : Visit) → Contains (visits_of (shard_log account shard)) visit
        → vertex_asked account.store visit.stamp place ≡ None
    none-asked shard visit h = at (find (λ (j : Judgement). same_stamp j.stamp visit.stamp) (judgements_of account.store)) refl
      where
        at : (o : Option Judgement) → find (λ (j : Judgement). same_stamp j.stamp visit.stamp) (judgements_of account.store) ≡ o
            → option_and_then (λ (j : Judgement). slice_get j.asked place) o ≡ None
        at None is = refl
        at (Some j) is =
            let found = find_has (λ (j : Judgement). same_stamp j.stamp visit.stamp) (judgements_of account.store) j is in
            let a = judged-begun j found.0 in
            let has = visit-fits script account basis shard visit h in
            let program = program-begun script account basis (has.fits).home _ (has.fits).begun in
            let b = begin-of script account basis visit.request visit.stamp (visit-stamp script account basis shard visit h) in
            let request : j.request ≡ visit.request =
            sym a.2 ∙ one-request a.0 b.0 a.1 b.1 (a.3 ∙ (basis.laws.same_stamps j.stamp visit.stamp).0 found.1 ∙ sym b.3) ∙ b.2 in
            let from = map-has (λ (e : StoreEntry). judged_by e.author e.deed) account.store j found.0 in
            let cut = cut_at account.store from.of from.has in
            let work : IsSomeAnd (request_at script j.request) (λ (q : Request). q.work ≡ Change j.ops) =
            subst (λ (k : Judgement). IsSomeAnd (request_at script k.request) (λ (q : Request). q.work ≡ Change k.ops)) from.is
            (basis.is.store.judges cut.before from.of cut.after cut.is).work in
            let change : (program.request).work ≡ Change j.ops =
            subst (λ q. IsSomeAnd q (λ (q : Request). q.work ≡ Change j.ops)) (ap (request_at script) request ∙ program.request_is) work in
            let clash : Change j.ops ≡ Look program.program = sym change ∙ program.work in
            cc

    visit-placed : (event : Stamp) → slice_get settled.earlier place ≡ Some event → (visit : Visit) → settled.later ≡ visit.stamp
        → (shard : ℕ) → Contains (visits_of (shard_log account shard)) visit → IsFound account.shards event settled.later
        → IsPlaced settled place
    visit-placed event event-is asked later shard h found =
        let w = found.visit in
        let number = place-of account.shards found.log found.there in
        let visited : Contains (visits_of (shard_log account number.0)) w = subst (λ l. Contains (visits_of l) w) (sym number.1) found.visited in
        let has = visit-fits script account basis number.0 w visited in
        let parts = and_parts (same_stamp w.stamp settled.later && w.settled) (list_any (same_stamp event) (seen_last found.log w)) found.added in
        let marks = and_parts (same_stamp w.stamp settled.later) w.settled parts.0 in
        let later-stamp : w.stamp ≡ settled.later = (basis.laws.same_stamps w.stamp settled.later).0 marks.0 in
        let seen = any_has (same_stamp event) (seen_last found.log w) parts.1 in
        let same : event ≡ seen.0 = (basis.laws.same_stamps event seen.0).0 seen.2 in
        let log = shard_log account number.0 in
        let get =
        seen-get w.updates (map (λ (u : Update). u.stamp) (updates_of w.vertex log)) event
        (subst (λ l. Contains (last_seen w.updates (map (λ (u : Update). u.stamp) (updates_of w.vertex l))) event) (sym number.1) (subst (λ s. Contains (seen_last found.log w) s) (sym same) seen.1)) in
        let shown = (shows script account basis number.0 w.vertex (has.fits).kept_here log (basis.is.shards.deeds number.0)).are in
        let naming = commits_naming w.vertex (commits_in account) in
        commit-seen event event-is w later-stamp marks.1 number.0 visited get.0 found.is (none-asked-later shard asked h later)
        (visit-stamp script account basis number.0 w visited)
        (slice_get (take (length (updates_of w.vertex log)) naming) (w.updates - 1)) refl
        (sym (slice_get-map (λ (c : Commit). c.stamp) (take (length (updates_of w.vertex log)) naming) (w.updates - 1)) ∙ sym (ap (λ us. slice_get us (w.updates - 1)) (ap (map (λ (u : Update). u.stamp)) shown ∙ map-map-stamp w.vertex (take (length (updates_of w.vertex log)) naming))) ∙ get.1)
      where
        map-map-stamp : (v : Name) (cs : List Commit)
            → map (λ (u : Update). u.stamp) (map (update_of v) cs) ≡ map (λ (c : Commit). c.stamp) cs
        map-map-stamp v [] = refl
        map-map-stamp v (c ∷ cs) = ap (λ ss. c.stamp ∷ ss) (map-map-stamp v cs)

        none-asked-later : (shard : ℕ) (visit : Visit) → Contains (visits_of (shard_log account shard)) visit
            → settled.later ≡ visit.stamp → vertex_asked account.store settled.later place ≡ None
        none-asked-later shard visit h later = ap (λ s. vertex_asked account.store s place) later ∙ none-asked shard visit h

        commit-seen : (event : Stamp) → slice_get settled.earlier place ≡ Some event → (w : Visit) → w.stamp ≡ settled.later
            → IsTrue w.settled → (shard : ℕ) → Contains (visits_of (shard_log account shard)) w → 0 < w.updates
            → vertex_visited account.shards event settled.later ≡ Some w.vertex
            → vertex_asked account.store settled.later place ≡ None → stamp_of account w.request ≡ Some w.stamp
            → (o : Option Commit) → last-read account shard w ≡ o → IsStamped o event → IsPlaced settled place
        commit-seen event event-is w later marked shard visited sees vertex none begun None is e = cc
        commit-seen event event-is w later marked shard visited sees vertex none begun (Some c) is e =
            let naming = commits_naming w.vertex (commits_in account) in
            let at : slice_get naming (w.updates - 1) ≡ Some c =
            get-front (length (updates_of w.vertex (shard_log account shard))) naming (w.updates - 1) c is in
            let in-all = (filter_has (names w.vertex) (commits_in account) c (get-has naming (w.updates - 1) c at)).0 in
            let c-stamp : c.stamp ≡ event = cc in
            let earlier-is : stamp_of account c.request ≡ Some event = (commit-known c in-all).stamp ∙ ap Some c-stamp in
            let later-is : stamp_of account w.request ≡ Some settled.later = begun ∙ ap Some later in
            record {
              event = event;
              event_is = event-is;
              pair = record { vertex = w.vertex; earlier = c.request; later = w.request };
              pair_is = placed-is place (event, settled.later) c.request w.request w.vertex (request-is c.request event earlier-is) (request-is w.request settled.later later-is)
                  (ap (λ o. option_or o (vertex_visited account.shards event settled.later)) none ∙ vertex);
              right = record {
                earlier_is = earlier-is;
                later_is = later-is;
                added = inr (record {
                  shard = shard;
                  visit = w;
                  visited = visited;
                  marked = marked;
                  later_is = refl;
                  vertex_is = refl;
                  sees = sees;
                  last_is = subst (λ o. IsSomeAnd o (λ (k : Commit). k.request ≡ c.request)) (sym at) refl;
                });
              };
            }

    by-visit : IsAskedByVisit account settled → IsPlaced settled place
    by-visit asked =
        let added = added-event pairs settled right place there in
        let in-place = basis.laws.in_place pairs settled.earlier settled.later place added.0 added.1 in
        let log = shard_log account asked.shard in
        let seen : Contains (seen_last log asked.visit) added.0 =
        subst (λ xs. Contains xs added.0) asked.earlier_is (get-has settled.earlier place added.0 in-place) in
        let entry = flat-has (λ (e : ShardEntry). visit_by e.author e.deed) log asked.visit asked.visited in
        let test : IsTrue (added_at added.0 settled.later log asked.visit) =
        and_from _ _ (and_from _ _ ((basis.laws.same_stamps (asked.visit).stamp settled.later).1 (sym asked.later_is)) asked.marked)
        (any_from (same_stamp added.0) (seen_last log asked.visit) added.0 seen ((basis.laws.same_stamps added.0 added.0).1 refl)) in
        visit-placed added.0 in-place asked.visit asked.later_is asked.shard asked.visited
        (found-visit account.shards added.0 settled.later log asked.visit (list-there account.shards asked.shard entry.0 entry.1.0) asked.visited test)

  -- each pair of an entry is placed
  entry-placed : (pairs : List GivenPair) (settled : SettledEntry) → IsRightEntry pairs settled
      → IsAskedByCommit account settled ⊎ IsAskedByVisit account settled → (place : ℕ) → Contains settled.places place
      → IsPlaced settled place
  entry-placed pairs settled right (inl commit) place there = by-commit pairs settled right place there commit
  entry-placed pairs settled right (inr visit) place there = by-visit pairs settled right place there visit

  -- The whole log

  places-are : (settled : SettledEntry) (places : List ℕ) → ((place : ℕ) → Contains places place → IsPlaced settled place)
      → ArePairsOf account (filter_map (λ (place : ℕ). option_and_then (λ (event : Stamp). placed_pair account place (event, settled.later)) (slice_get settled.earlier place)) places)
      (filter_map (λ (place : ℕ). option_map (λ (event : Stamp). (event, settled.later)) (slice_get settled.earlier place)) places)
  places-are settled [] each = tt
  places-are settled (place ∷ places) each =
      let here = each place (has_head place places) in
      let rest = places-are settled places (λ k h. each k (has_tail place places k h)) in
      let pair : option_and_then (λ (event : Stamp). placed_pair account place (event, settled.later)) (slice_get settled.earlier place) ≡ Some here.pair =
      ap (option_and_then (λ (event : Stamp). placed_pair account place (event, settled.later))) here.event_is ∙ here.pair_is in
      let given : option_map (λ (event : Stamp). (event, settled.later)) (slice_get settled.earlier place) ≡ Some (here.event, settled.later) =
      ap (option_map (λ (event : Stamp). (event, settled.later))) here.event_is in
      subst (λ o. ArePairsOf account (cons_option o (filter_map (λ (place : ℕ). option_and_then (λ (event : Stamp). placed_pair account place (event, settled.later)) (slice_get settled.earlier place)) places)) (filter_map (λ (place : ℕ). option_map (λ (event : Stamp). (event, settled.later)) (slice_get settled.earlier place)) (place ∷ places)))
      (sym pair)
      (subst (λ o. ArePairsOf account (here.pair ∷ filter_map (λ (place : ℕ). option_and_then (λ (event : Stamp). placed_pair account place (event, settled.later)) (slice_get settled.earlier place)) places) (cons_option o (filter_map (λ (place : ℕ). option_map (λ (event : Stamp). (event, settled.later)) (slice_get settled.earlier place)) places))) (sym given) (here.right, rest))

  log-are : (pairs : List GivenPair) (log : List OracleEntry) → IsRightFrom pairs log
      → ((entry : OracleEntry) → Contains log entry → IsAskedByCommit account (settled_entry entry) ⊎ IsAskedByVisit account (settled_entry entry))
      → ArePairsOf account (flat_map (λ (entry : OracleEntry). placed_by account (settled_entry entry)) log) (flat_map (λ (entry : OracleEntry). pairs_of_entry (settled_entry entry)) log)
  log-are pairs [] right asked = tt
  log-are pairs (entry ∷ log) right asked =
      are-append account (placed_by account (settled_entry entry)) _ (pairs_of_entry (settled_entry entry)) _
      (places-are (settled_entry entry) (settled_entry entry).places (entry-placed pairs (settled_entry entry) right.0 (asked entry (has_head entry log))))
      (log-are (pairs ++ pairs_of_entry (settled_entry entry)) log right.1 (λ e h. asked e (has_tail entry log e h)))

  -- the placed pairs are those of the account
  pub placed-are : ArePairsOf account (placed_pairs account) (pairs_in account)
  placed-are = log-are [] account.oracle basis.is.oracle.log basis.is.oracle.asked
