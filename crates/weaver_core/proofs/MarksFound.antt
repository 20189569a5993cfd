-- The vertices that are found for the entries of the oracle are those of the visits that asked for them.
-- Used by Unordered.
use Rattle.std.proofs.Common.{◌≡◌, ◌⊎◌, ℕ, zero, suc, ◌-◌, Bool, true, false, cond, ◌&&◌, ◌==◌, List, [], ◌∷◌, ◌++◌, length, map, take, Contains, IsTrue, Option, None, Some, inl, inr, refl, sym, ap, subst, ◌∙◌, arith}
use Rattle.std.specs.Prelude.{nat_lt, slice_get, slice_index_or, IsSomeAnd, if◌then◌else◌}
use Rattle.std.specs.List.{find}
use Rattle.std.specs.Option.{option_and_then, option_map}
use Rattle.std.proofs.lemmas.Bool.{and_from, and_parts, cases_Bool, eq-eqb, eqb-true, lt-ltb, ltb-true}
use Rattle.std.proofs.lemmas.List.Concat.{flat_map-append}
use Rattle.std.proofs.lemmas.List.Elements.{filter-append}
use Rattle.std.proofs.lemmas.Option.{get_or_from_slice_get, none-some, same_Some, slice_get-map}
use Rattle.weave_data.proofs.Members.{any_from, any_has, cut_at, find_has, find_lacks, flat_has, has_cut, has_flat, has_head, has_map, has_none, has_read, has_tail, map_has, only}
use Rattle.weave_data.proofs.Ordered.{find_by_key}
use Rattle.weave_data.specs.Names.{one_name, same_name, shard_of}
use Rattle.weave_data.specs.declared.name.Name.{Name}
use Rattle.graph_ops.proofs.Vertices.{same_name-refl}
use Rattle.vector_stamp.specs.declared.clock.Stamp.{Stamp}
use Rattle.vector_stamp.specs.Precedence.{GivenPair, precedes}
use Rattle.vector_stamp.specs.Seeing.{last_seen}
use Rattle.vector_stamp.specs.Settling.{SettledEntry, additions_from, places_of}
use Rattle.graph_ops.specs.Mentions.{named_by}
use Rattle.program_defs.specs.declared.script.Request.{Request}
use Rattle.program_defs.specs.declared.script.Script.{Script}
use Rattle.program_defs.specs.declared.script.Work.TheVariants.{Change}
use Rattle.report_rules.specs.Lookups.{request_at}
use Rattle.weave_entries.specs.declared.oracle_log.OracleEntry.{OracleEntry}
use Rattle.weave_entries.specs.declared.shard_log.ShardEntry.{ShardEntry}
use Rattle.weave_entries.specs.declared.shard_log.ShardDeed.{ShardDeed}
use Rattle.weave_entries.specs.declared.shard_log.ShardDeed.TheVariants.{Arrived, Applied, Visited, Collected}
use Rattle.weave_entries.specs.declared.store_log.StoreEntry.{StoreEntry}
use Rattle.weave_entries.specs.declared.store_log.StoreDeed.{StoreDeed}
use Rattle.weave_entries.specs.declared.store_log.StoreDeed.TheVariants.{Judged}
use Rattle.weave_entries.specs.declared.verdict.Counted.{Counted}
use Rattle.weave_entries.specs.declared.verdict.Verdict.TheVariants.{Committed, Conflict, Refused}
use Rattle.weave_entries.specs.GateReplay.{BegunRequest}
use Rattle.weave_entries.specs.OracleReplay.{pairs_of_entry, settled_entry}
use Rattle.weave_entries.specs.OracleRules.{IsRightEntry, IsRightFrom}
use Rattle.weave_entries.specs.ShardReplay.{Update, Visit, updates_of, visit_by, visits_of}
use Rattle.weave_entries.specs.StoreReplay.{Commit, Judgement, commit_by, commits_naming, commits_of, count_naming, judged_by, judgement_of, judgements_of, names_vertex}
use Rattle.weave_entries.specs.StoreRule.{counts_of}
use Rattle.weave_entries.proofs.StoreLogs.{commit-cases}
use Rattle.weave_account.specs.declared.account.Account.{Account}
use Rattle.weave_account.specs.Account.{all_begun, commits_in, shard_log, stamp_of}
use Rattle.weave_account.specs.IsAccount.{IsAccount}
use Rattle.weave_account.specs.Oracle.{IsAskedByCommit, IsAskedByVisit, seen_last}
use Rattle.weave_account.specs.Shards.{IsRightVisit, ShardFitsAs, update_of}
use Rattle.weave_account.specs.Store.{Judges}
use Rattle.weaver_core.specs.Marks.{IsMarkOf, IsMarkedAs, adds_visit, all_visits, counts_by, counts_if, counts_of_verdict, first_seen, mark_of, same_visit, was_asked}
use Rattle.weaver_core.proofs.CanVisit.{commit-judged, inside}
use Rattle.weaver_core.proofs.Found.{stamp-of-begun}
use Rattle.weaver_core.proofs.Marked.{begun-looks, find-none, not-both}
use Rattle.weaver_core.proofs.Turns.{place-of}
use Rattle.vector_stamp.proofs.Seen.{last-cases}

-- The oracle's rule

-- an entry of a log that keeps the rule keeps it after some pairs
right-entry : (pairs : List GivenPair) (log : List OracleEntry) → IsRightFrom pairs log → (entry : OracleEntry) → Contains log entry → (before : List GivenPair) × IsRightEntry before (settled_entry entry)
right-entry pairs [] right entry h = absurd (has_none entry h)
right-entry pairs (one ∷ log) right entry h = elim (has_read one log entry h) [
  | inl same ↦ (pairs, subst (λ (e : OracleEntry). IsRightEntry pairs (settled_entry e)) same right.0)
  | inr more ↦ right-entry (pairs ++ pairs_of_entry (settled_entry one)) log right.1 entry more
]

-- an entry for what was seen last is for one event, at one place
one-place : (before : List GivenPair) (settled : SettledEntry) → IsRightEntry before settled → (seen : List Stamp) → settled.earlier ≡ seen → (seen ≡ []) ⊎ ((u : Stamp) × (seen ≡ u ∷ []))
    → (u : Stamp) × ((settled.earlier ≡ u ∷ []) × (settled.places ≡ 0 ∷ []))
one-place before settled right seen is (inl none) = absurd (right.some (right.added ∙ ap (λ (events : List Stamp). places_of (additions_from 0 before events settled.later)) (is ∙ none)))
one-place before settled right seen is (inr one) =
    by (precedes before one.0 settled.later) (right.added ∙ ap (λ (events : List Stamp). places_of (additions_from 0 before events settled.later)) (is ∙ one.1))
  where
    by : (b : Bool) → settled.places ≡ places_of (if b then [] else (0, one.0) ∷ []) → (u : Stamp) × ((settled.earlier ≡ u ∷ []) × (settled.places ≡ 0 ∷ []))
    by true empty = absurd (right.some empty)
    by false places = (one.0, (is ∙ one.1, places))

no-one : (u : Stamp) → [] ≡ u ∷ [] → ⊥
no-one u e = cc

-- what was seen last is the update before
last-got : (n : ℕ) (updates : List Stamp) (u : Stamp) → last_seen n updates ≡ u ∷ [] → (m : ℕ) × ((n ≡ suc m) × (slice_get updates m ≡ Some u))
last-got zero updates u e = absurd (no-one u e)
last-got (suc n) [] u e = absurd (no-one u e)
last-got (suc zero) (x ∷ updates) u e = (zero, (refl, ap (λ (xs : List Stamp). slice_get xs 0) e))
last-got (suc (suc n)) (x ∷ updates) u e = let rest = last-got (suc n) updates u e in (suc rest.0, (ap suc rest.1.0, rest.1.1))

-- The commits that name a vertex

-- this commit is the one of this place, from 0, among those that name the vertex
record CommitAt (v : Name) (log : List StoreEntry) (n : ℕ) (c : Commit) : Type 0 where
  before : List StoreEntry
  entry : StoreEntry
  after : List StoreEntry
  at : log ≡ before ++ entry ∷ after
  commit_is : commit_by entry.deed ≡ c ∷ []
  names : IsTrue (names_vertex v c)
  count : count_naming v (commits_of before) ≡ n

module _ (v : Name) where
  abbrev naming : List StoreEntry → List Commit
  naming log = commits_naming v (commits_of log)

  none-naming : (entry : StoreEntry) → commit_by entry.deed ≡ [] → (log : List StoreEntry) → naming (entry ∷ log) ≡ naming log
  none-naming entry none log = ap (λ (cs : List Commit). commits_naming v (cs ++ commits_of log)) none

  more-naming : (entry : StoreEntry) (one : Commit) → commit_by entry.deed ≡ one ∷ [] → (b : Bool) → names_vertex v one ≡ b → (log : List StoreEntry) → naming (entry ∷ log) ≡ cond b (one ∷ naming log) (naming log)
  more-naming entry one is b names log = ap (λ (cs : List Commit). commits_naming v (cs ++ commits_of log)) is ∙ ap (λ (d : Bool). cond d (one ∷ naming log) (naming log)) names

  later : (entry : StoreEntry) (log : List StoreEntry) (next : ℕ → ℕ) → ((others : List StoreEntry) → length (naming (entry ∷ others)) ≡ next (length (naming others))) → (n : ℕ) (c : Commit) → CommitAt v log n c → CommitAt v (entry ∷ log) (next n) c
  later entry log next adds n c cut = record {
    before = entry ∷ cut.before;
    entry = cut.entry;
    after = cut.after;
    at = ap (λ (es : List StoreEntry). entry ∷ es) cut.at;
    commit_is = cut.commit_is;
    names = cut.names;
    count = adds cut.before ∙ ap next cut.count;
  }

  first-step : (entry : StoreEntry) (log : List StoreEntry) (one c : Commit) → commit_by entry.deed ≡ one ∷ [] → (b : Bool) → names_vertex v one ≡ b → (n : ℕ) → slice_get (cond b (one ∷ naming log) (naming log)) n ≡ Some c
      → ((m : ℕ) → slice_get (naming log) m ≡ Some c → CommitAt v log m c) → CommitAt v (entry ∷ log) n c
  first-step entry log one c is true names zero at rest =
      let same : one ≡ c = same_Some one c at in
      record { before = []; entry = entry; after = log; at = refl; commit_is = is ∙ ap (λ (k : Commit). k ∷ []) same; names = subst (λ (k : Commit). IsTrue (names_vertex v k)) same names; count = refl }
  first-step entry log one c is true names (suc n) at rest = later entry log (λ k. suc k) (λ others. ap length (more-naming entry one is true names others)) n c (rest n at)
  first-step entry log one c is false names n at rest = later entry log (λ k. k) (λ others. ap length (more-naming entry one is false names others)) n c (rest n at)

  commit-at : (log : List StoreEntry) (n : ℕ) (c : Commit) → slice_get (naming log) n ≡ Some c → CommitAt v log n c
  commit-at [] n c at = absurd (none-some c at)
  commit-at (entry ∷ log) n c at = elim (commit-cases entry.deed) [
    | inl none ↦ later entry log (λ k. k) (λ others. ap length (none-naming entry none others)) n c (commit-at log n c (ap (λ (cs : List Commit). slice_get cs n) (sym (none-naming entry none log)) ∙ at))
    | inr one ↦ first-step entry log one.0 c one.1 (names_vertex v one.0) refl n (ap (λ (cs : List Commit). slice_get cs n) (sym (more-naming entry one.0 one.1 (names_vertex v one.0) refl log)) ∙ at) (λ m e. commit-at log m c e)
  ]

  seam : (xs ys : List Commit) (c : Commit) → slice_get (xs ++ c ∷ ys) (length xs) ≡ Some c
  seam [] ys c = refl
  seam (x ∷ xs) ys c = seam xs ys c

  -- and back
  at-count : (before after : List StoreEntry) (entry : StoreEntry) (c : Commit) → commit_by entry.deed ≡ c ∷ [] → IsTrue (names_vertex v c) → slice_get (naming (before ++ entry ∷ after)) (count_naming v (commits_of before)) ≡ Some c
  at-count before after entry c is names = ap (λ (cs : List Commit). slice_get cs (length (naming before))) whole ∙ seam (naming before) (naming after) c
    where
      whole : naming (before ++ entry ∷ after) ≡ naming before ++ c ∷ naming after
      whole =
          ap (commits_naming v) (flat_map-append (λ (e : StoreEntry). commit_by e.deed) before (entry ∷ after))
          ∙ filter-append (names_vertex v) (commits_of before) (commits_of (entry ∷ after))
          ∙ ap (λ (cs : List Commit). naming before ++ cs) (more-naming entry c is true names after)

-- What a commit counts

head-is : (x y : Commit) → x ∷ [] ≡ y ∷ [] → x ≡ y
head-is x y e = same_Some x y (ap (λ (xs : List Commit). slice_get xs 0) e)

no-head : (y : Commit) → [] ≡ y ∷ [] → ⊥
no-head y e = none-some y (ap (λ (xs : List Commit). slice_get xs 0) e)

abbrev counted-at : List Commit → Name → Counted
counted-at commits v = record { vertex = v; before = count_naming v commits }

counts-are : (script : Script) (account : Account) (before : List StoreEntry) (author : ℕ) (deed : StoreDeed) (c : Commit) → Judges script account before (judged_by author deed) → commit_by deed ≡ c ∷ []
    → (counts_of_verdict (judged_by author deed).verdict ≡ counts_of c.ops (commits_of before)) × (((judged_by author deed).request ≡ c.request) × ((judged_by author deed).stamp ≡ c.stamp))
counts-are script account before author (Judged r stamp ops asked (Committed number answers counts)) c judges is =
    let one : Commit = record { request = r; stamp = stamp; ops = ops } in
    let same : one ≡ c = head-is one c is in
    (judges.verdict.counts_are ∙ ap (λ (k : Commit). counts_of k.ops (commits_of before)) same, (ap (λ (k : Commit). k.request) same, ap (λ (k : Commit). k.stamp) same))
counts-are script account before author (Judged r stamp ops asked (Conflict v newer)) c judges is = absurd (no-head c is)
counts-are script account before author (Judged r stamp ops asked (Refused op reason at)) c judges is = absurd (no-head c is)

-- what is counted is a vertex that the commit names, with the commits before that name it
counted-commit : (script : Script) (account : Account) (before : List StoreEntry) (author : ℕ) (deed : StoreDeed) (counted : Counted) → Judges script account before (judged_by author deed) → Contains (counts_of_verdict (judged_by author deed).verdict) counted
    → (c : Commit) × ((commit_by deed ≡ c ∷ []) × ((c.request ≡ (judged_by author deed).request) × (IsTrue (names_vertex counted.vertex c) × (counted.before ≡ count_naming counted.vertex (commits_of before)))))
counted-commit script account before author (Judged r stamp ops asked (Committed number answers counts)) counted judges h =
    let one : Commit = record { request = r; stamp = stamp; ops = ops } in
    let from = map_has (counted-at (commits_of before)) (named_by ops) counted (subst (λ (cs : List Counted). Contains cs counted) judges.verdict.counts_are h) in
    let vertex : from.0 ≡ counted.vertex = ap (λ (k : Counted). k.vertex) from.2 in
    let named : IsTrue (names_vertex from.0 one) = any_from (λ (other : Name). same_name other from.0) (named_by ops) from.0 from.1 (same_name-refl from.0) in
    (one, (refl, (refl, (subst (λ (v : Name). IsTrue (names_vertex v one)) vertex named, ap (λ (k : Counted). k.before) (sym from.2) ∙ ap (λ (v : Name). count_naming v (commits_of before)) vertex))))
counted-commit script account before author (Judged r stamp ops asked (Conflict v newer)) counted judges h = absurd (has_none counted h)
counted-commit script account before author (Judged r stamp ops asked (Refused op reason at)) counted judges h = absurd (has_none counted h)

-- The visits

visit-fits : (script : Script) (account : Account) (shard : ℕ) (before : List ShardEntry) (author : ℕ) (deed : ShardDeed) (visit : Visit) → ShardFitsAs script account shard before deed → Contains (visit_by author deed) visit
    → IsRightVisit script account shard before visit.request visit.stamp visit.vertex visit.updates
visit-fits script account shard before author (Arrived home number message) visit fits h = absurd (has_none visit h)
visit-fits script account shard before author (Applied home number) visit fits h = absurd (has_none visit h)
visit-fits script account shard before author (Collected bound) visit fits h = absurd (has_none visit h)
visit-fits script account shard before author (Visited q stamp v updates settled) visit fits h =
    subst (λ (w : Visit). IsRightVisit script account shard before w.request w.stamp w.vertex w.updates) (only (record { author = author; request = q; stamp = stamp; vertex = v; updates = updates; settled = settled }) visit h) fits

-- a visit at one of the shards is among all
in-all : (logs : List (List ShardEntry)) (n : ℕ) (visit : Visit) → Contains (visits_of (slice_index_or logs n [])) visit → Contains (all_visits logs) visit
in-all [] n visit h = absurd (has_none visit h)
in-all (log ∷ logs) zero visit h = has_flat visits_of (log ∷ logs) log visit (has_head log logs) h
in-all (log ∷ logs) (suc n) visit h =
    let from = flat_has visits_of logs visit (in-all logs n visit h) in
    has_flat visits_of (log ∷ logs) from.0 visit (has_tail log logs from.0 from.1) from.2

-- a visit of this request asked, at this vertex, after one more update than that many
record AskedBy (account : Account) (r : ℕ) (v : Name) (n : ℕ) : Type 0 where
  shard : ℕ
  visit : Visit
  visited : Contains (visits_of (shard_log account shard)) visit
  settled : IsTrue visit.settled
  request_is : visit.request ≡ r
  vertex_is : visit.vertex ≡ v
  updates_are : visit.updates ≡ suc n

module _ (script : Script) (account : Account) (is : IsAccount script account)
    (work : (judged : Judgement) → Contains (judgements_of account.store) judged → IsSomeAnd (request_at script judged.request) (λ (request : Request). request.work ≡ Change judged.ops))
    (begun : (judged : Judgement) → Contains (judgements_of account.store) judged → Contains (all_begun account) (record { author = judged.author; request = judged.request; stamp = judged.stamp }))
    (whole : (v : Name) → let updates = updates_of v (shard_log account (shard_of v script.shards)) in updates ≡ map (update_of v) (take (length updates) (commits_naming v (commits_in account))))
    (request_of : Stamp → Option ℕ) (found : (b : BegunRequest) → Contains (all_begun account) b → request_of b.stamp ≡ Some b.request) where
  abbrev asked : ℕ × Name × ℕ → Bool
  asked = was_asked (all_visits account.shards)

  right-visit : (shard : ℕ) (visit : Visit) → Contains (visits_of (shard_log account shard)) visit → (before : List ShardEntry) × IsRightVisit script account shard before visit.request visit.stamp visit.vertex visit.updates
  right-visit shard visit h =
      let log = shard_log account shard in
      let from = flat_has (λ (e : ShardEntry). visit_by e.author e.deed) log visit h in
      let cut = cut_at log from.0 from.1 in
      (cut.before, visit-fits script account shard cut.before from.0.author from.0.deed visit (is.shards.deeds shard cut.before from.0 cut.after cut.is) from.2)

  -- its program was begun
  its-begin : (shard : ℕ) (visit : Visit) → Contains (visits_of (shard_log account shard)) visit → (author : ℕ) × Contains (all_begun account) (record { author = author; request = visit.request; stamp = visit.stamp })
  its-begin shard visit h =
      let right = (right-visit shard visit h).1 in
      (right.author, inside (record { author = right.author; request = visit.request; stamp = visit.stamp }) account.gates right.home right.begun)

  -- and is no transaction that was judged
  no-visit : (judged : Judgement) → Contains (judgements_of account.store) judged → (shard : ℕ) (visit : Visit) → Contains (visits_of (shard_log account shard)) visit → visit.request ≡ judged.request → ⊥
  no-visit judged h shard visit at same =
      let right = (right-visit shard visit at).1 in
      not-both right.home (request_at script visit.request) judged (begun-looks script account is right.home (record { author = right.author; request = visit.request; stamp = visit.stamp }) right.begun)
      (subst (λ n. IsSomeAnd (request_at script n) (λ (request : Request). request.work ≡ Change judged.ops)) (sym same) (work judged h))

  asked-by : (r : ℕ) (v : Name) (n : ℕ) → IsTrue (asked (r, v, n)) → AskedBy account r v n
  asked-by r v n h =
      let one = any_has (λ (visit : Visit). adds_visit visit.request visit.vertex visit.updates visit.settled (r, v, n)) (all_visits account.shards) h in
      let visit = one.0 in
      let from = flat_has visits_of account.shards visit one.1 in
      let place = place-of account.shards from.0 from.1 in
      let parts = and_parts (visit.settled && nat_lt 0 visit.updates) (same_visit (visit.request, visit.vertex, visit.updates - 1) (r, v, n)) one.2 in
      let which = and_parts visit.settled (nat_lt 0 visit.updates) parts.0 in
      let last = and_parts ((visit.request == r) && same_name visit.vertex v) (visit.updates - 1 == n) parts.1 in
      let first = and_parts (visit.request == r) (same_name visit.vertex v) last.0 in
      record {
        shard = place.0;
        visit = visit;
        visited = subst (λ (log : List ShardEntry). Contains (visits_of log) visit) (sym (get_or_from_slice_get account.shards place.0 from.0 [] place.1)) from.2;
        settled = which.0;
        request_is = eqb-true visit.request r first.0;
        vertex_is = one_name visit.vertex v first.1;
        updates_are = let some = ltb-true 0 visit.updates which.1 in let same = eqb-true (visit.updates - 1) n last.1 in omega (arith, some, same);
      }

  asked-of : (shard : ℕ) (visit : Visit) → Contains (visits_of (shard_log account shard)) visit → IsTrue visit.settled → (n : ℕ) → visit.updates ≡ suc n → IsTrue (asked (visit.request, visit.vertex, n))
  asked-of shard visit h settled n updates =
      any_from (λ (one : Visit). adds_visit one.request one.vertex one.updates one.settled (visit.request, visit.vertex, n)) (all_visits account.shards) visit (in-all account.shards shard visit h)
      (and_from (visit.settled && nat_lt 0 visit.updates) (same_visit (visit.request, visit.vertex, visit.updates - 1) (visit.request, visit.vertex, n))
      (and_from visit.settled (nat_lt 0 visit.updates) settled (lt-ltb 0 visit.updates (omega (arith, updates))))
      (and_from ((visit.request == visit.request) && same_name visit.vertex visit.vertex) (visit.updates - 1 == n)
      (and_from (visit.request == visit.request) (same_name visit.vertex visit.vertex) (eq-eqb visit.request visit.request refl) (same_name-refl visit.vertex))
      (eq-eqb (visit.updates - 1) n (omega (arith, updates)))))

  -- An entry that a commit asked for

  none-marked : (settled : SettledEntry) → IsAskedByCommit account settled → mark_of request_of asked account.store settled ≡ None
  none-marked settled by-commit = by (option_and_then request_of (slice_get settled.earlier 0))
    where
      in-commits : Contains (commits_of account.store) by-commit.commit
      in-commits =
          has_flat (λ (e : StoreEntry). commit_by e.deed) account.store by-commit.entry by-commit.commit
          (subst (λ (store : List StoreEntry). Contains store by-commit.entry) (sym by-commit.at) (has_cut by-commit.before by-commit.entry by-commit.after))
          (subst (λ (cs : List Commit). Contains cs by-commit.commit) (sym by-commit.commit_is) (has_head by-commit.commit []))

      judged : (one : Judgement) × (Contains (judgements_of account.store) one × ((one.request ≡ by-commit.commit.request) × (one.stamp ≡ by-commit.commit.stamp)))
      judged = commit-judged account.store by-commit.commit in-commits

      later-found : request_of settled.later ≡ Some judged.0.request
      later-found = ap request_of (by-commit.later_is ∙ sym judged.1.1.1) ∙ found (record { author = judged.0.author; request = judged.0.request; stamp = judged.0.stamp }) (begun judged.0 judged.1.0)

      unseen : (counted : Counted) → asked (judged.0.request, counted.vertex, counted.before) ≡ false
      unseen counted = elim (cases_Bool (asked (judged.0.request, counted.vertex, counted.before))) [
        | inl seen ↦ let one = asked-by judged.0.request counted.vertex counted.before seen in absurd (no-visit judged.0 judged.1.0 one.shard one.visit one.visited one.request_is)
        | inr unseen-there ↦ unseen-there
      ]

      by : (o : Option ℕ) → option_and_then (λ (earlier : ℕ). option_and_then (λ (later : ℕ). first_seen asked later (counts_by account.store earlier)) (request_of settled.later)) o ≡ None
      by None = refl
      by (Some a) =
          ap (option_and_then (λ (later : ℕ). first_seen asked later (counts_by account.store a))) later-found
          ∙ ap (option_map (λ (counted : Counted). counted.vertex)) (find-none (λ (counted : Counted). asked (judged.0.request, counted.vertex, counted.before)) (counts_by account.store a) (λ counted h. unseen counted))

  -- An entry that a visit asked for

  -- the commit of a request, which comes after those that it counts at a vertex
  commit-of : (a : ℕ) (counted : Counted) → Contains (counts_by account.store a) counted → (c : Commit) × ((slice_get (naming counted.vertex account.store) counted.before ≡ Some c) × (c.request ≡ a))
  commit-of a counted h = by (judgement_of a account.store) refl h
    where
      by : (o : Option Judgement) → judgement_of a account.store ≡ o → Contains (counts_if (option_map (λ (judged : Judgement). judged.verdict) o)) counted → (c : Commit) × ((slice_get (naming counted.vertex account.store) counted.before ≡ Some c) × (c.request ≡ a))
      by None at has = absurd (has_none counted has)
      by (Some judged) at has =
          let from = find_has (λ (one : Judgement). one.request == a) (judgements_of account.store) judged at in
          let entry = map_has (λ (e : StoreEntry). judged_by e.author e.deed) account.store judged from.0 in
          let cut = cut_at account.store entry.0 entry.1 in
          let c = counted-commit script account cut.before entry.0.author entry.0.deed counted (is.store.judges cut.before entry.0 cut.after cut.is) (subst (λ (one : Judgement). Contains (counts_of_verdict one.verdict) counted) (sym entry.2) has) in (
            c.0,
            (
              (λ i. slice_get (naming counted.vertex (cut.is i)) (c.1.1.1.1 i)) ∙ at-count counted.vertex cut.before cut.after entry.0 c.0 c.1.0 c.1.1.1.0,
              c.1.1.0 ∙ ap (λ (one : Judgement). one.request) entry.2 ∙ eqb-true judged.request a from.1,
            ),
          )

  mark-right : (settled : SettledEntry) (u : Stamp) → settled.earlier ≡ u ∷ [] → settled.places ≡ 0 ∷ [] → (a l : ℕ) → stamp_of account a ≡ Some u → stamp_of account l ≡ Some settled.later
      → (counted : Counted) → Contains (counts_by account.store a) counted → IsTrue (asked (l, counted.vertex, counted.before)) → IsMarkOf account settled counted.vertex
  mark-right settled u earlier places a l a-is l-is counted has h =
      let one = asked-by l counted.vertex counted.before h in
      let c = commit-of a counted has in
      let before : one.visit.updates - 1 ≡ counted.before = let updates = one.updates_are in omega (arith, updates) in
      let there : slice_get (naming counted.vertex account.store) (one.visit.updates - 1) ≡ Some c.0 = ap (slice_get (naming counted.vertex account.store)) before ∙ c.1.0 in
      record {
        pair = record { vertex = counted.vertex; earlier = a; later = l };
        vertex_is = refl;
        earlier = u;
        earlier_is = earlier;
        places_are = places;
        is_pair = record {
          earlier_is = a-is;
          later_is = l-is;
          added = inr (record {
            shard = one.shard;
            visit = one.visit;
            visited = one.visited;
            marked = one.settled;
            later_is = one.request_is;
            vertex_is = one.vertex_is;
            sees = let updates = one.updates_are in omega (arith, updates);
            last_is = subst (λ (o : Option Commit). IsSomeAnd o (λ (commit : Commit). commit.request ≡ a)) (sym there) c.1.1;
          });
        };
      }

  got-take : (n : ℕ) (xs : List Commit) (m : ℕ) (x : Commit) → slice_get (take n xs) m ≡ Some x → slice_get xs m ≡ Some x
  got-take zero xs m x e = absurd (none-some x e)
  got-take (suc n) [] m x e = absurd (none-some x e)
  got-take (suc n) (y ∷ xs) zero x e = e
  got-take (suc n) (y ∷ xs) (suc m) x e = got-take n xs m x e

  -- what was seen last is a commit
  seen-commit : (v : Name) (m : ℕ) (u : Stamp) → slice_get (map (λ (update : Update). update.stamp) (updates_of v (shard_log account (shard_of v script.shards)))) m ≡ Some u → (c : Commit) × ((slice_get (naming v account.store) m ≡ Some c) × (c.stamp ≡ u))
  seen-commit v m u at = let n = length (updates_of v (shard_log account (shard_of v script.shards))) in by n (slice_get (take n (naming v account.store)) m) refl
      (sym (ap (λ (us : List Update). slice_get (map (λ (update : Update). update.stamp) us) m) (whole v)
      ∙ slice_get-map (λ (update : Update). update.stamp) (map (update_of v) (take n (naming v account.store))) m ∙ ap (option_map (λ (update : Update). update.stamp)) (slice_get-map (update_of v) (take n (naming v account.store)) m)) ∙ at)
    where
      by : (n : ℕ) (o : Option Commit) → slice_get (take n (naming v account.store)) m ≡ o → option_map (λ (update : Update). update.stamp) (option_map (update_of v) o) ≡ Some u → (c : Commit) × ((slice_get (naming v account.store) m ≡ Some c) × (c.stamp ≡ u))
      by n None e none = absurd (none-some u none)
      by n (Some c) e some = (c, (got-take n (naming v account.store) m c e, same_Some c.stamp u some))

  module _ (entry : OracleEntry) (h : Contains account.oracle entry) (by-visit : IsAskedByVisit account (settled_entry entry)) where
    abbrev settled : SettledEntry
    settled = settled_entry entry

    abbrev w : Visit
    w = by-visit.visit

    abbrev stamps : List Stamp
    stamps = map (λ (update : Update). update.stamp) (updates_of w.vertex (shard_log account by-visit.shard))

    right : (before : List ShardEntry) × IsRightVisit script account by-visit.shard before w.request w.stamp w.vertex w.updates
    right = right-visit by-visit.shard w by-visit.visited

    one : (u : Stamp) × ((settled.earlier ≡ u ∷ []) × (settled.places ≡ 0 ∷ []))
    one = let rule = right-entry [] account.oracle is.oracle.log entry h in one-place rule.0 settled rule.1 (seen_last (shard_log account by-visit.shard) w) by-visit.earlier_is (last-cases w.updates stamps)

    got : (m : ℕ) × ((w.updates ≡ suc m) × (slice_get stamps m ≡ Some one.0))
    got = last-got w.updates stamps one.0 (sym by-visit.earlier_is ∙ one.1.0)

    seen : (c : Commit) × ((slice_get (naming w.vertex account.store) got.0 ≡ Some c) × (c.stamp ≡ one.0))
    seen = seen-commit w.vertex got.0 one.0 (subst (λ s. slice_get (map (λ (update : Update). update.stamp) (updates_of w.vertex (shard_log account s))) got.0 ≡ Some one.0) (sym right.1.kept_here) got.1.1)

    at : CommitAt w.vertex account.store got.0 seen.0
    at = commit-at w.vertex account.store got.0 seen.0 seen.1.0

    abbrev judged : Judgement
    judged = judged_by at.entry.author at.entry.deed

    has-judged : Contains (judgements_of account.store) judged
    has-judged = has_map (λ (e : StoreEntry). judged_by e.author e.deed) account.store at.entry (subst (λ (store : List StoreEntry). Contains store at.entry) (sym at.at) (has_cut at.before at.entry at.after))

    abbrev its : BegunRequest
    its = record { author = judged.author; request = judged.request; stamp = judged.stamp }

    counts : (counts_of_verdict judged.verdict ≡ counts_of seen.0.ops (commits_of at.before)) × ((judged.request ≡ seen.0.request) × (judged.stamp ≡ seen.0.stamp))
    counts = counts-are script account at.before at.entry.author at.entry.deed seen.0 (is.store.judges at.before at.entry at.after at.at) at.commit_is

    stamp-is : judged.stamp ≡ one.0
    stamp-is = counts.1.1 ∙ seen.1.1

    begin : (author : ℕ) × Contains (all_begun account) (record { author = author; request = w.request; stamp = w.stamp })
    begin = its-begin by-visit.shard w by-visit.visited

    earlier-found : request_of one.0 ≡ Some judged.request
    earlier-found = ap request_of (sym stamp-is) ∙ found its (begun judged has-judged)

    later-found : request_of settled.later ≡ Some w.request
    later-found = ap request_of by-visit.later_is ∙ found (record { author = begin.0; request = w.request; stamp = w.stamp }) begin.1

    named : Contains (named_by seen.0.ops) w.vertex
    named = let other = any_has (λ (name : Name). same_name name w.vertex) (named_by seen.0.ops) at.names in subst (λ (v : Name). Contains (named_by seen.0.ops) v) (one_name other.0 w.vertex other.2) other.1

    abbrev counted-here : Counted
    counted-here = record { vertex = w.vertex; before = got.0 }

    is-counted : Contains (counts_by account.store judged.request) counted-here
    is-counted =
        subst (λ (cs : List Counted). Contains cs counted-here)
        (sym (ap (λ (o : Option Judgement). counts_if (option_map (λ (k : Judgement). k.verdict) o)) (find_by_key (λ (k : Judgement). k.request) (judgements_of account.store) judged is.store.once has-judged) ∙ counts.0))
        (subst (λ n. Contains (counts_of seen.0.ops (commits_of at.before)) (record { vertex = w.vertex; before = n })) at.count (has_map (counted-at (commits_of at.before)) (named_by seen.0.ops) w.vertex named))

    abbrev test : Counted → Bool
    test counted = asked (w.request, counted.vertex, counted.before)

    mark-is : (o : Option Counted) → find test (counts_by account.store judged.request) ≡ o → IsMarkedAs account settled (option_map (λ (counted : Counted). counted.vertex) o)
    mark-is None none = absurd (find_lacks test (counts_by account.store judged.request) counted-here none is-counted (asked-of by-visit.shard w by-visit.visited by-visit.marked got.0 got.1.0))
    mark-is (Some counted) some =
        let from = find_has test (counts_by account.store judged.request) counted some in
        mark-right settled one.0 one.1.0 one.1.1 judged.request w.request
        (stamp-of-begun script account is its (begun judged has-judged) ∙ ap Some stamp-is)
        (stamp-of-begun script account is (record { author = begin.0; request = w.request; stamp = w.stamp }) begin.1 ∙ ap Some (sym by-visit.later_is))
        counted from.0 from.1

    abbrev of-later : ℕ → Option ℕ → Option Name
    of-later earlier later = option_and_then (λ (l : ℕ). first_seen asked l (counts_by account.store earlier)) later

    path : mark_of request_of asked account.store settled ≡ first_seen asked w.request (counts_by account.store judged.request)
    path =
        ap (λ (events : List Stamp). option_and_then (λ (a : ℕ). of-later a (request_of settled.later)) (option_and_then request_of (slice_get events 0))) one.1.0
        ∙ ap (option_and_then (λ (a : ℕ). of-later a (request_of settled.later))) earlier-found
        ∙ ap (of-later judged.request) later-found

    marked-visit : IsMarkedAs account settled (mark_of request_of asked account.store settled)
    marked-visit = subst (IsMarkedAs account settled) (sym path) (mark-is (find test (counts_by account.store judged.request)) refl)

  -- the mark that is found of an entry is right
  pub marks-found : (entry : OracleEntry) → Contains account.oracle entry → IsMarkedAs account (settled_entry entry) (mark_of request_of asked account.store (settled_entry entry))
  marks-found entry h = elim (is.oracle.asked entry h) [
    | inl by-commit ↦ subst (IsMarkedAs account (settled_entry entry)) (sym (none-marked (settled_entry entry) by-commit)) by-commit
    | inr by-visit ↦ marked-visit entry h by-visit
  ]
