-- A visit refers to what was seen: its program's begin, the commits that it read, and the oracle's pairs and entry.
-- Used by Visits.
use Rattle.std.proofs.Common.{◌≡◌, inl, inr, ℕ, zero, suc, ◌+◌, ◌-◌, ◌<◌, Bool, true, false, not, List, [], ◌∷◌, ◌++◌, length, map, take, Contains, IsTrue, Some, refl, sym, ap, ◌∙◌, subst, arith}
use Rattle.std.specs.Prelude.{◌||◌, slice_get, if◌then◌else◌}
use Rattle.std.specs.List.{list_any}
use Rattle.std.specs.Option.{ForSome, option_map}
use Rattle.std.proofs.lemmas.List.Elements.{Contains-append_left, Contains-append_right}
use Rattle.std.proofs.lemmas.Option.{slice_get-map}
use Rattle.weave_data.proofs.Members.{filter_has, has_head, has_map, map_has, take_has}
use Rattle.weave_data.specs.Names.{shard_of}
use Rattle.weave_data.specs.declared.name.Name.{Name}
use Rattle.vector_stamp.specs.declared.clock.Stamp.{Stamp}
use Rattle.vector_stamp.specs.Precedence.{GivenPair, Precedes, precedes}
use Rattle.vector_stamp.specs.Seeing.{last_seen, seen_of}
use Rattle.vector_stamp.specs.Settling.{SettledEntry, additions_from, entries_of_call, pairs_of, places_of}
use Rattle.weave_entries.specs.declared.oracle_log.OracleEntry.{OracleEntry}
use Rattle.weave_entries.specs.declared.shard_log.ShardEntry.{ShardEntry}
use Rattle.weave_entries.specs.GateReplay.{programs_of}
use Rattle.weave_entries.specs.OracleReplay.{oracle_entry_of, pairs_of_log}
use Rattle.weave_entries.specs.ShardReplay.{Update, Visit, updates_of}
use Rattle.weave_entries.specs.ShardRules.{IsKeptFor, entries_of_visit, is_settled_by, last_read, pairs_after_visit, update_stamps, updates_read}
use Rattle.weave_entries.specs.StoreReplay.{commits_naming, commits_of, names_vertex}
use Rattle.weave_account.specs.declared.account.Account.{Account}
use Rattle.weave_account.specs.Account.{Precedence, gate_log, pairs_in}
use Rattle.weave_account.specs.Oracle.{HasItsEntry}
use Rattle.weave_account.specs.Seen.{HasSeen}
use Rattle.weave_account.specs.Shards.{update_at, update_of}
use Rattle.seen_logs.specs.References.{VisitsAsSeen}
use Rattle.shard_lock.specs.VisitLaws.{VisitLaws}
use Rattle.vector_stamp.proofs.Seen.{last-cases}

-- the judge's entry, if it had to put what was seen last before the program
record Settles (pairs : List GivenPair) (author : ℕ) (stamp : Stamp) (events : List Stamp) : Type 0 where
  entry : SettledEntry
  there : Contains (entries_of_call author events stamp (places_of (additions_from 0 pairs events stamp))) entry
  later_is : entry.later ≡ stamp
  earlier_is : entry.earlier ≡ events

one-settles : (pairs : List GivenPair) (author : ℕ) (stamp update : Stamp) → IsTrue (list_any (λ u. not (precedes pairs u stamp)) (update ∷ []))
    → Settles pairs author stamp (update ∷ [])
one-settles pairs author stamp update lacking = at (precedes pairs update stamp) refl lacking
  where
    at : (b : Bool) → precedes pairs update stamp ≡ b → IsTrue (not b || false) → Settles pairs author stamp (update ∷ [])
    at true e lacking = absurd (let clash : IsTrue false = lacking in cc)
    at false e lacking =
        let made : SettledEntry = record { author = author; earlier = update ∷ []; later = stamp; places = 0 ∷ [] } in
        let is : additions_from 0 pairs (update ∷ []) stamp ≡ (0, update) ∷ [] = ap (λ b. if b then [] else (0, update) ∷ []) e in
        record {
          entry = made;
          there = subst (λ (added : List (ℕ × Stamp)). Contains (entries_of_call author (update ∷ []) stamp (places_of added)) made) (sym is)
              (has_head made []);
          later_is = refl;
          earlier_is = refl;
        }

settles : (pairs : List GivenPair) (author : ℕ) (stamp : Stamp) (n : ℕ) (updates : List Stamp)
    → IsTrue (list_any (λ u. not (precedes pairs u stamp)) (last_seen n updates)) → Settles pairs author stamp (last_seen n updates)
settles pairs author stamp n updates lacking = elim (last-cases n updates) [
  | inl none ↦
      let clash : IsTrue false = subst (λ (l : List Stamp). IsTrue (list_any (λ u. not (precedes pairs u stamp)) l)) none lacking in absurd (let e : false ≡ true = clash in cc)
  | inr one ↦ subst (Settles pairs author stamp) (sym one.1) (one-settles pairs author stamp one.0
      (subst (λ (l : List Stamp). IsTrue (list_any (λ u. not (precedes pairs u stamp)) l)) one.1 lacking))
]

module _ (laws : VisitLaws) (shards : ℕ) (seen : Account) (shard : ℕ) (log : List ShardEntry) (has : HasSeen shards seen.store shard log)
    (before : List OracleEntry) (author request : ℕ) (stamp : Stamp) (v : Name) (here : shard_of v shards ≡ shard) (base : IsKeptFor stamp v log) where
  abbrev pairs : List GivenPair
  pairs = pairs_of_log before

  abbrev n : ℕ
  n = updates_read pairs stamp v log

  abbrev last : List Stamp
  last = last_read pairs stamp v log

  abbrev more : List OracleEntry
  more = map oracle_entry_of (entries_of_visit pairs author stamp v log)

  abbrev pub visit : Visit
  visit = record { author = author; request = request; stamp = stamp; vertex = v; updates = n; settled = is_settled_by pairs stamp v log }

  n-is : n ≡ seen_of pairs stamp (update_stamps v log)
  n-is = laws.read pairs stamp v log base

  last-is : last ≡ last_seen n (update_stamps v log)
  last-is = laws.last pairs stamp v log base ∙ ap (λ k. last_seen k (update_stamps v log)) (sym n-is)

  -- what was read are commits
  commits-read : (update : Update) → Contains (take n (updates_of v log)) update → Contains (map (update_of v) (commits_of seen.store)) update
  commits-read update h =
      let commits = commits_of seen.store in
      let naming = commits_naming v commits in
      let many = length (updates_of v log) in
      let there : Contains (map (update_of v) (take many naming)) update =
      subst (λ (us : List Update). Contains us update) (laws.updates shards seen.store shard log has v here)
      (take_has n (updates_of v log) update h) in
      let of = map_has (update_of v) (take many naming) update there in
      let named = (filter_has (names_vertex v) commits of.0 (take_has many naming of.0 of.1)).0 in
      subst (λ (u : Update). Contains (map (update_of v) commits) u) of.2 (has_map (update_of v) commits of.0 named)

  module _ (oracle_is : seen.oracle ≡ before ++ more) (pairs_are : pairs_in seen ≡ pairs_after_visit pairs stamp v log) where
    after-seen : 0 < n → ForSome (update_at v (n - 1) log) (λ (update : Update). Precedence seen update.stamp stamp)
    after-seen some update e =
        let stamps = update_stamps v log in
        let at : slice_get stamps (n - 1) ≡ Some update.stamp =
        slice_get-map (λ (u : Update). u.stamp) (updates_of v log) (n - 1)
        ∙ ap (option_map (λ (u : Update). u.stamp)) e in
        let back : n ≡ n - 1 + 1 = omega (arith, some) in
        let one : last ≡ update.stamp ∷ [] = last-is ∙ (ap (λ k. last_seen k stamps) back ∙ laws.named stamps update.stamp (n - 1) at) in
        subst (λ (ps : List GivenPair). Precedes ps update.stamp stamp) (sym pairs_are)
        ((laws.tested (pairs_after_visit pairs stamp v log) update.stamp stamp).1
        (laws.all_precede pairs last stamp update.stamp (subst (λ (l : List Stamp). Contains l update.stamp) (sym one) (has_head update.stamp []))))

    before-skipped : ForSome (update_at v n log) (λ (update : Update). Precedence seen stamp update.stamp)
    before-skipped update e =
        let added = pairs_of (additions_from 0 pairs last stamp) stamp in
        subst (λ (ps : List GivenPair). Precedes ps stamp update.stamp) (sym pairs_are)
        ((laws.tested (pairs_after_visit pairs stamp v log) stamp update.stamp).1
        (laws.grows pairs (pairs ++ added) (λ a b h. Contains-append_left pairs added (a, b) h) stamp update.stamp
        (laws.skipped pairs stamp v log n update (omega arith) e)))

    its-entry : IsTrue (is_settled_by pairs stamp v log) → HasItsEntry seen log visit
    its-entry marked =
        let made = subst (Settles pairs author stamp) (sym last-is) (settles pairs author stamp n (update_stamps v log)
        (subst (λ (l : List Stamp). IsTrue (list_any (λ u. not (precedes pairs u stamp)) l)) last-is marked)) in
        record {
          entry = oracle_entry_of made.entry;
          is_there = subst (λ (l : List OracleEntry). Contains l (oracle_entry_of made.entry)) (sym oracle_is)
              (Contains-append_right before more (oracle_entry_of made.entry)
              (has_map oracle_entry_of (entries_of_visit pairs author stamp v log) made.entry made.there));
          later_is = made.later_is;
          earlier_is = made.earlier_is ∙ last-is;
        }

    -- all that the visit refers to was seen
    pub visits-as-seen : (home by : ℕ) → Contains (programs_of (gate_log seen home)) (record { author = by; request = request; stamp = stamp })
        → VisitsAsSeen seen shards shard log visit
    visits-as-seen home by begun = record {
      home = home;
      by = by;
      begun = begun;
      kept_here = here;
      commits_read = commits-read;
      after_seen = after-seen;
      before_skipped = before-skipped;
      asked = its-entry;
    }
