-- `visit` keeps a core, if the program was begun, the vertex is its next one, and the shard is ready: the program reads
-- what it sees of the vertex, and the last update that it sees is put before it.
-- Used by Visiting and crate workers_account.
use Rattle.std.proofs.Common.{◌≡◌, ◌≢◌, ℕ, zero, suc, ◌+◌, ◌-◌, ◌<◌, ◌≤◌, Bool, true, false, cond, not, List, [], ◌∷◌, ◌++◌, map, take, length, get_or, AllPairs, Contains, IsTrue, Option, None, Some, inl, inr, refl, sym, ap, subst, ◌∙◌, arith}
use Rattle.std.specs.Prelude.{IsSomeAnd, slice_get, ◌&&◌}
use Rattle.std.specs.List.{flat_map}
use Rattle.std.specs.Map.{keys_of}
use Rattle.std.specs.Option.{ForSome}
use Rattle.std.proofs.lemmas.Bool.{and_from, and_parts, both_ways, cases_Bool, cases_eq, cases_lt, not_from_false, or_cases, or_left, or_right}
use Rattle.std.proofs.lemmas.List.{append-nil, get_or_past, length-map, length-set}
use Rattle.std.proofs.lemmas.List.Elements.{All-from_recursion, Contains-append_cases, Contains-append_left, Contains-append_right}
use Rattle.std.proofs.lemmas.Option.{get_or_from_slice_get, none-some, same_Some, slice_get_within, slice_get-get_or}
use Rattle.weave_data.proofs.Members.{cut_at, filter_has, find_has, flat_has, has_head, has_map, has_none, map_has, only}
use Rattle.weave_data.specs.declared.name.Name.{Name}
use Rattle.weave_data.specs.Names.{shard_of}
use Rattle.weave_data.proofs.ListPlaces.{all-from}
use Rattle.graph_ops.specs.Mentions.{is_among}
use Rattle.graph_ops.specs.Operations.{State}
use Rattle.graph_ops.specs.declared.op.Op.{Op}
use Rattle.vector_stamp.specs.declared.clock.Stamp.{Stamp}
use Rattle.vector_stamp.specs.Order.{id_of, stamp_before, unordered}
use Rattle.vector_stamp.specs.Precedence.{GivenPair, ByStamps, Precedes, precedes}
use Rattle.vector_stamp.specs.Seeing.{last_seen}
use Rattle.vector_stamp.specs.Settling.{additions_from, entries_of_call, pairs_of, places_of}
use Rattle.program_defs.specs.declared.program.Program.{Program}
use Rattle.program_defs.specs.declared.script.Request.{Request}
use Rattle.program_defs.specs.declared.script.Script.{Script}
use Rattle.program_defs.specs.declared.script.Work.TheVariants.{Change, Look}
use Rattle.program_defs.specs.Visits.{AreFirstVisits, next_visit}
use Rattle.report_rules.specs.Lookups.{request_at}
use Rattle.weave_entries.specs.declared.oracle_log.OracleEntry.{OracleEntry}
use Rattle.weave_entries.specs.declared.shard_log.ShardEntry.{ShardEntry}
use Rattle.weave_entries.specs.declared.shard_log.ShardDeed.{ShardDeed}
use Rattle.weave_entries.specs.declared.shard_log.ShardDeed.TheVariants as shard
use Rattle.weave_entries.specs.GateReplay.{BegunRequest, begun_in, programs_of}
use Rattle.weave_entries.specs.OracleReplay.{oracle_entry_of, settled_entry}
use Rattle.weave_entries.specs.ShardReplay.{Update, Visit, first_unready, reads_in, updates_of, visit_by, visits_of}
use Rattle.weave_entries.specs.StoreReplay.{Commit, Judgement, commits_naming, judgements_of, names_vertex}
use Rattle.weave_entries.specs.StoreRule.{entries_of_settling}
use Rattle.weave_entries.proofs.OwnStamps.{program-begun}
use Rattle.weave_account.specs.declared.account.Account.{Account}
use Rattle.weave_account.specs.Account.{Precedence, all_begun, commits_in, gate_log, is_ended, pairs_in, reads_of, shard_log}
use Rattle.weave_account.specs.GoesOn.{GoesOn}
use Rattle.weave_account.specs.IsAccount.{IsAccount}
use Rattle.weave_account.specs.Oracle.{HasItsEntry, IsAskedByVisit, marked_in, seen_last}
use Rattle.weave_account.specs.Programs.{ProgramsClause, ReadsInTurn}
use Rattle.weave_account.specs.Shards.{IsRightVisit, ShardFitsAs, update_at, update_of}
use Rattle.step_rules.specs.CoreState.{CoreState, with_shard_deed}
use Rattle.step_rules.specs.Entries.{made_entry, seen_in, update_stamps_at}
use Rattle.step_rules.specs.IsCore.{IsCore}
use Rattle.step_rules.proofs.Basis.{Basis}
use Rattle.step_rules.proofs.Begun.{all-in, inside-log, one-begun}
use Rattle.step_rules.proofs.Clashes.{change-no-look, same-program}
use Rattle.step_rules.proofs.Commits.{commit-judged}
use Rattle.step_rules.proofs.FindLists.{pairs-into}
use Rattle.step_rules.proofs.Frames.{ShardRule, deeds-stay, replies-stay, sends-stay, store-stays}
use Rattle.step_rules.proofs.Preceded.{each-precede}
use Rattle.step_rules.proofs.ProgramBegun.{list-place}
use Rattle.step_rules.proofs.SetLists.{SetMore, flat-more, flat-set}
use Rattle.step_rules.proofs.StepGoesOn.{goes-further, with-settled, with-shard-deed}
use Rattle.step_rules.proofs.Verdicts.{IsSettled, none-refused, settles, three}
use Rattle.step_rules.proofs.VisitLogs as visited
use Rattle.step_rules.proofs.SetLogs.{each-set, set-here, set-there, shard-entry}
use Rattle.step_rules.proofs.Within.{shard-within}

-- a test and its contrary do not both hold
pub not-both : (b : Bool) → IsTrue (not b) → IsTrue b → ⊥
not-both true h g = cc
not-both false h g = cc

-- an entry was made if there is one, and the other way round
made-some : (entries : List OracleEntry) (entry : OracleEntry) → Contains entries entry → IsTrue (made_entry entries)
made-some [] entry h = absurd (has_none entry h)
made-some (first ∷ entries) entry h = refl

some-made : (entries : List OracleEntry) → IsTrue (made_entry entries) → (entry : OracleEntry) × Contains entries entry
some-made [] h = absurd (let none : IsTrue false = h in cc)
some-made (first ∷ entries) h = (first, has_head first entries)

-- a request that is a program is no transaction
change-not : (request : Request) (program : Program) → request.work ≡ Look program → (q : Option Request) (ops : List Op) → IsSomeAnd q (λ (other : Request). other.work ≡ Change ops) → q ≡ Some request → ⊥
change-not request program look None ops work e = absurd work
change-not request program look (Some other) ops work e = change-no-look ops program (sym work ∙ ap (λ (q : Request). q.work) (same_Some other request e) ∙ look)

-- the rule of a visit, by its deed
visit-rule : (script : Script) (account : Account) (s : ℕ) (before : List ShardEntry) (author : ℕ) (deed : ShardDeed) (visit : Visit) → Contains (visit_by author deed) visit
    → ShardFitsAs script account s before deed → IsRightVisit script account s before visit.request visit.stamp visit.vertex visit.updates
visit-rule script account s before author (shard.Visited r stamp v k made) visit h rule =
    subst (λ (w : Visit). IsRightVisit script account s before w.request w.stamp w.vertex w.updates) (only (record { author = author; request = r; stamp = stamp; vertex = v; updates = k; settled = made }) visit h) rule
visit-rule script account s before author (shard.Arrived home number message) visit h rule = absurd (has_none visit h)
visit-rule script account s before author (shard.Applied home number) visit h rule = absurd (has_none visit h)
visit-rule script account s before author (shard.Collected bound) visit h rule = absurd (has_none visit h)

module _ (script : Script) (state : CoreState) (basis : Basis script state) (r : ℕ) (request : Request) (request-is : request_at script r ≡ Some request) (program : Program) (look : request.work ≡ Look program)
    (begun : BegunRequest) (began : Contains (programs_of (gate_log state.account request.gate)) begun) (begun-is : begun.request ≡ r)
    (v : Name) (next-is : next_visit (reads_of state.account r) program ≡ Some v) (ready : first_unready script.gates begun.stamp (shard_log state.account (shard_of v script.shards)) ≡ None) where
  abbrev account : Account
  account = state.account

  abbrev is : IsAccount script account
  is = basis.core.account

  abbrev s : ℕ
  s = shard_of v script.shards

  abbrev log : List ShardEntry
  log = shard_log account s

  abbrev stamp : Stamp
  stamp = begun.stamp

  abbrev pairs : List GivenPair
  pairs = pairs_in account

  abbrev stamps : List Stamp
  stamps = update_stamps_at account s v

  abbrev k : ℕ
  k = seen_in account stamp stamps

  abbrev events : List Stamp
  events = last_seen k stamps

  abbrev entries : List OracleEntry
  entries = entries_of_settling 0 pairs events stamp

  abbrev deed : ShardDeed
  deed = shard.Visited r stamp v k (made_entry entries)

  abbrev entry : ShardEntry
  entry = shard-entry deed

  abbrev visit : Visit
  visit = record { author = 0; request = r; stamp = stamp; vertex = v; updates = k; settled = made_entry entries }

  abbrev next : Account
  next = with_shard_deed (record account { oracle = account.oracle ++ entries }) s deed

  inside : s < script.shards
  inside = let some = basis.limits.some_shard in omega (arith, some)

  home-inside : request.gate < script.gates
  home-inside = basis.limits.homes r request request-is

  on : GoesOn account next
  on = goes-further account (record account { oracle = account.oracle ++ entries }) next (with-settled account entries) (with-shard-deed (record account { oracle = account.oracle ++ entries }) s deed (shard-within is s inside))

  all-begun : Contains (all_begun account) begun
  all-begun = all-in account request.gate begun (inside-log basis.laws basis.further script account basis.limits is request.gate home-inside) (program-begun (gate_log account request.gate) begun began)

  began-so : Contains (programs_of (gate_log account request.gate)) (record { author = begun.author; request = r; stamp = stamp })
  began-so = subst (λ n. Contains (programs_of (gate_log account request.gate)) (record { author = begun.author; request = n; stamp = stamp })) begun-is began

  -- The last update that it sees

  record IsLast (x : Stamp) : Type 0 where
    j : ℕ
    k-is : k ≡ j + 1
    at : slice_get stamps j ≡ Some x

  events-of : (j : ℕ) (x : Stamp) → k ≡ j + 1 → slice_get stamps j ≡ Some x → events ≡ x ∷ []
  events-of j x e at = ap (λ n. last_seen n stamps) e ∙ basis.laws.stamps.seen_named stamps x j at

  -- the last update that it sees, if it sees one
  record IsOne : Type 0 where
    x : Stamp
    last : IsLast x

  one-of : (j : ℕ) → k ≡ j + 1 → IsOne
  one-of j e =
      let in-list = basis.laws.stamps.seen_within pairs stamp stamps in
      record { x = get_or stamps j stamp; last = record { j = j; k-is = e; at = slice_get-get_or stamps j stamp (omega (arith, e, in-list)) } }

  event-is : (x : Stamp) → Contains events x → IsLast x
  event-is x h = from k refl
    where
      from : (n : ℕ) → k ≡ n → IsLast x
      from zero e = absurd (has_none x (subst (λ es. Contains es x) (ap (λ n. last_seen n stamps) e) h))
      from (suc j) e =
          let one = one-of j (omega (arith, e)) in
          subst IsLast (only one.x x (subst (λ es. Contains es x) (events-of one.last.j one.x one.last.k-is one.last.at) h)) one.last

  open-way : (x : Stamp) → Contains events x → ¬ IsTrue (precedes pairs stamp x)
  open-way x h back =
      let last = event-is x h in
      let closed = basis.laws.stamps.precedence_closed pairs in
      elim (or_cases (stamp_before x stamp) (unordered x stamp && not (precedes pairs stamp x)) (basis.laws.stamps.seen_last pairs stamp x stamps last.j last.k-is last.at)) [
        | inl before ↦ basis.laws.accounts.stamps_acyclic script account basis.limits is stamp (closed.transitive stamp x stamp back (closed.has_stamps x stamp before))
        | inr neither ↦ not-both (precedes pairs stamp x) (and_parts (unordered x stamp) (not (precedes pairs stamp x)) neither).1 back
      ]

  -- a judged transaction has another id than the program
  judged-other : (judged : Judgement) → Contains (judgements_of account.store) judged → id_of judged.stamp ≢ id_of stamp
  judged-other judged h =
      let one : BegunRequest = record { author = judged.author; request = judged.request; stamp = judged.stamp } in
      basis.further.accounts.differ script account basis.limits is one begun (basis.further.accounts.judged_begun script account basis.limits is judged h) all-begun
      (λ same. change-not request program look (request_at script judged.request) judged.ops (basis.further.accounts.judged_work script account basis.limits is judged h) (ap (request_at script) (same ∙ begun-is) ∙ request-is))

  -- the same holds of a commit
  commit-other : (commit : Commit) → Contains (commits_in account) commit → id_of commit.stamp ≢ id_of stamp
  commit-other commit h = let judged = commit-judged account.store commit h in subst (λ (t : Stamp). id_of t ≢ id_of stamp) judged.2 (judged-other judged.0 judged.1)

  -- and an update of the vertex, which is one
  update-other : (update : Update) → Contains (updates_of v log) update → id_of update.stamp ≢ id_of stamp
  update-other update h =
      let naming = commits_naming v (commits_in account) in
      let from = map_has (update_of v) (take (length (updates_of v log)) naming) update (subst (λ us. Contains us update) (basis.laws.accounts.updates script account basis.limits is v) h) in
      let commit = (filter_has (names_vertex v) (commits_in account) from.0 (visited.in-take (length (updates_of v log)) naming from.0 from.1)).0 in
      subst (λ (u : Update). id_of u.stamp ≢ id_of stamp) from.2 (commit-other from.0 commit)

  other-id : (x : Stamp) → Contains events x → id_of x ≢ id_of stamp
  other-id x h =
      let last = event-is x h in
      let update = map_has (λ (u : Update). u.stamp) (updates_of v log) x (last.j, slice_get_within stamps last.j x last.at, get_or_from_slice_get stamps last.j x x last.at) in
      subst (λ (t : Stamp). id_of t ≢ id_of stamp) update.2 (update-other update.0 update.1)

  settled : IsSettled 0 account.oracle events stamp entries
  settled = settles basis.laws 0 account.oracle events stamp is.oracle.log
      (All-from_recursion (λ event. id_of event ≢ id_of stamp) events (all-from (λ event. id_of event ≢ id_of stamp) events other-id)) (none-refused pairs events stamp open-way)

  -- The visit is right

  fits : IsRightVisit script next s log r stamp v k
  fits = record {
    home = request.gate;
    author = begun.author;
    begun = began-so;
    kept_here = refl;
    ready = ready;
    applied = applied;
    after_seen = sees;
    before_skipped = skips;
  }
    where
      applied : k ≤ length (updates_of v log)
      applied = let le = basis.laws.stamps.seen_within pairs stamp stamps in let len = length-map (updates_of v log) (λ (update : Update). update.stamp) in omega (arith, le, len)

      sees : 0 < k → ForSome (update_at v (k - 1) log) (λ (update : Update). Precedence next update.stamp stamp)
      sees some update e =
          let one = events-of (k - 1) update.stamp (omega (arith, some)) (visited.map-get (λ (u : Update). u.stamp) (updates_of v log) (k - 1) update e) in
          subst (λ ps. Precedes ps update.stamp stamp) (sym settled.pairs)
          ((basis.laws.stamps.precedence_tested (pairs ++ pairs_of (additions_from 0 pairs events stamp) stamp) update.stamp stamp).1
          (basis.laws.stamps.settled_all_precede pairs events stamp update.stamp (subst (λ es. Contains es update.stamp) (sym one) (has_head update.stamp []))))

      skips : ForSome (update_at v k log) (λ (update : Update). Precedence next stamp update.stamp)
      skips update e =
          let x = update.stamp in
          let unseen = basis.laws.stamps.seen_skipped pairs stamp x stamps k (omega arith) (visited.map-get (λ (u : Update). u.stamp) (updates_of v log) k update e) in
          elim (three x stamp) [
            | inl before ↦ absurd (unseen (or_left (stamp_before x stamp) (unordered x stamp && not (precedes pairs stamp x)) before))
            | inr (inl later) ↦ ByStamps stamp x later
            | inr (inr neither) ↦ elim (cases_Bool (precedes pairs stamp x)) [
              | inl path ↦ basis.laws.accounts.stay_precedence script account next on stamp x ((basis.laws.stamps.precedence_tested pairs stamp x).1 path)
              | inr none ↦ absurd (unseen (or_right (stamp_before x stamp) (unordered x stamp && not (precedes pairs stamp x)) (and_from (unordered x stamp) (not (precedes pairs stamp x)) neither (not_from_false (precedes pairs stamp x) none))))
            ]
          ]

  -- What programs read

  turn : ReadsInTurn (reads_of next r) program (IsTrue (is_ended account r))
  turn =
      let was = is.programs r request program request-is look in
      let read = visited.read-of log r stamp v k (made_entry entries) visit in
      let set : SetMore (reads_in r) account.shards s (log ++ entry ∷ []) (read ∷ []) = flat-more (reads_in r) account.shards s (log ++ entry ∷ []) (read ∷ []) (shard-within is s inside) (visited.reads-more log r stamp v k (made_entry entries)) in
      let after : next_visit (set.front ++ set.back) program ≡ Some v = ap (λ reads. next_visit reads program) (sym set.was) ∙ next-is in
      let distinct : AllPairs (λ (a b : Name × State). a.0 ≢ b.0) (set.front ++ set.back) = subst (AllPairs (λ (a b : Name × State). a.0 ≢ b.0)) set.was was.once in
      let first : AreFirstVisits (set.front ++ set.back) program = subst (λ reads. AreFirstVisits reads program) set.was was.first_ones in
      let fresh : ¬ IsTrue (is_among (keys_of (set.front ++ set.back)) v) = λ h. not-both (is_among (keys_of (set.front ++ set.back)) v) (find_has (λ w. not (is_among (keys_of (set.front ++ set.back)) w)) _ v after).1 h in
      let other : (y : Name × State) → Contains (set.front ++ set.back) y → y.0 ≢ v = λ y h same. fresh
      ((basis.laws.among_tested (keys_of (set.front ++ set.back)) v).1 (subst (λ w. Contains (keys_of (set.front ++ set.back)) w) same (has_map (λ (read : Name × State). read.0) (set.front ++ set.back) y h))) in
      record {
        once = subst (AllPairs (λ (a b : Name × State). a.0 ≢ b.0)) (sym set.now) (pairs-into (λ (a b : Name × State). a.0 ≢ b.0) set.front read set.back distinct
            (λ y h. other y (Contains-append_left set.front set.back y h)) (λ y h same. other y (Contains-append_right set.front set.back y h) (sym same)));
        first_ones = subst (λ reads. AreFirstVisits reads program) (sym set.now) (basis.further.programs.visits_go_on program set.front set.back v read.1 first after);
        whole = λ done. absurd (none-some v (sym (was.whole done) ∙ next-is));
      }

  programs : ProgramsClause script next
  programs q request' program' there look' = elim (cases_eq q r) [
    | inr differ ↦ subst (λ reads. ReadsInTurn reads program' (IsTrue (is_ended account q))) (sym (flat-set (reads_in q) account.shards s (log ++ entry ∷ []) (shard-within is s inside) (visited.reads-stay log r stamp v k (made_entry entries) q differ)))
        (is.programs q request' program' there look')
    | inl same ↦
        let requests = same_Some request request' (sym request-is ∙ ap (request_at script) (sym same) ∙ there) in
        let programs-are = same-program program program' (sym look ∙ ap (λ (x : Request). x.work) requests ∙ look') in
        subst (λ n. ReadsInTurn (reads_of next n) program' (IsTrue (is_ended account n))) (sym same) (subst (λ p. ReadsInTurn (reads_of next r) p (IsTrue (is_ended account r))) programs-are turn)
  ]

  -- The oracle's log

  -- what the visit saw last is that of which the oracle was asked
  saw : seen_last (shard_log next s) visit ≡ events
  saw = ap (λ l. seen_last l visit) (set-here account.shards s (shard-within is s inside) entry) ∙ ap (λ us. last_seen k (map (λ (u : Update). u.stamp) us)) (visited.updates-same log r stamp v k (made_entry entries) v)

  visits-now : visits_of (shard_log next s) ≡ visits_of log ++ visit ∷ []
  visits-now = ap visits_of (set-here account.shards s (shard-within is s inside) entry) ∙ visited.visits-push log r stamp v k (made_entry entries)

  asked-now : (e : OracleEntry) → Contains entries e → IsAskedByVisit next (settled_entry e)
  asked-now e h = let of = settled.of_call e h in record {
    shard = s;
    visit = visit;
    visited = subst (λ ws. Contains ws visit) (sym visits-now) (Contains-append_right (visits_of log) (visit ∷ []) visit (has_head visit []));
    marked = made-some entries e h;
    later_is = of.0;
    earlier_is = of.1 ∙ sym saw;
  }

  entry-now : IsTrue (made_entry entries) → HasItsEntry next (shard_log next s) visit
  entry-now made = let one = some-made entries made in let of = settled.of_call one.0 one.1 in record {
    entry = one.0;
    is_there = Contains-append_right account.oracle entries one.0 one.1;
    later_is = of.0;
    earlier_is = of.1 ∙ sym saw;
  }

  marked-now : (i : ℕ) (w : Visit) → Contains (visits_of (shard_log next i)) w → IsTrue w.settled → HasItsEntry next (shard_log next i) w
  marked-now i w h marked = elim (cases_eq i s) [
    | inr other ↦
        let there = subst (λ l. Contains (visits_of l) w) (set-there account.shards s (shard-within is s inside) entry i other) h in
        basis.laws.accounts.stay_marked script account next basis.limits is on i w there (is.oracle.marked i w there marked)
    | inl same ↦ subst (λ n. HasItsEntry next (shard_log next n) w) (sym same) (here (subst (λ n. Contains (visits_of (shard_log next n)) w) same h))
  ]
    where
      here : Contains (visits_of (shard_log next s)) w → HasItsEntry next (shard_log next s) w
      here h = elim (Contains-append_cases (visits_of log) (visit ∷ []) w (subst (λ ws. Contains ws w) visits-now h)) [
        | inl old ↦ basis.laws.accounts.stay_marked script account next basis.limits is on s w old (is.oracle.marked s w old marked)
        | inr new ↦ (let one = only visit w new in subst (λ u. HasItsEntry next (shard_log next s) u) one (entry-now (subst (λ (u : Visit). IsTrue u.settled) (sym one) marked)))
      ]

  -- if what it sees last precedes it already, nothing is added
  nothing-made : ((x : Stamp) → Contains events x → IsTrue (precedes pairs x stamp)) → made_entry entries ≡ false
  nothing-made there = from k refl
    where
      none : additions_from 0 pairs events stamp ≡ [] → made_entry entries ≡ false
      none e = ap (λ adds. made_entry (map oracle_entry_of (entries_of_call 0 events stamp (places_of adds)))) e

      from : (n : ℕ) → k ≡ n → made_entry entries ≡ false
      from zero e = none (ap (λ n. additions_from 0 pairs (last_seen n stamps) stamp) e)
      from (suc j) e =
          let one = one-of j (omega (arith, e)) in
          let is-one = events-of one.last.j one.x one.last.k-is one.last.at in
          let before = there one.x (subst (λ es. Contains es one.x) (sym is-one) (has_head one.x [])) in
          none (ap (λ es. additions_from 0 pairs es stamp) is-one ∙ ap (λ b. cond b [] ((0, one.x) ∷ [])) before)

  -- if this visit adds an entry of the oracle, no marked visit of this program saw the same update last
  fresh-mark : IsTrue (made_entry entries) → (y : ℕ × List Stamp) → Contains (flat_map marked_in account.shards) y → y ≢ (r, events)
  fresh-mark made y h same =
      let at-shard = flat_has marked_in account.shards y h in
      let place = list-place account.shards at-shard.0 at-shard.1 in
      let marks = subst (λ l. Contains (marked_in l) y) (sym place.1) at-shard.2 in
      let from = map_has (λ (w : Visit). (w.request, seen_last (shard_log account place.0) w)) _ y marks in
      let has = filter_has (λ (w : Visit). w.settled) (visits_of (shard_log account place.0)) from.0 from.1 in
      of-visit place.0 from.0 has.0 has.1 (ap (λ (p : ℕ × List Stamp). p.0) (from.2 ∙ same)) (ap (λ (p : ℕ × List Stamp). p.1) (from.2 ∙ same))
    where
      stamp-of : (i : ℕ) (w : Visit) → Contains (visits_of (shard_log account i)) w → w.request ≡ r → w.stamp ≡ stamp
      stamp-of i w h one =
          let deed-of = flat_has (λ (e : ShardEntry). visit_by e.author e.deed) (shard_log account i) w h in
          let cut = cut_at (shard_log account i) deed-of.0 deed-of.1 in
          let rule = visit-rule script account i cut.before deed-of.0.author deed-of.0.deed w deed-of.2 (is.shards.deeds i cut.before deed-of.0 cut.after cut.is) in
          let its : BegunRequest = record { author = rule.author; request = w.request; stamp = w.stamp } in
          let in-log = program-begun (gate_log account rule.home) its rule.begun in
          ap (λ (b : BegunRequest). b.stamp) (one-begun account is.gatekeepers.once its begun (all-in account rule.home its (home-there rule.home its in-log) in-log) all-begun (one ∙ sym begun-is))
        where
          home-there : (home : ℕ) (b : BegunRequest) → Contains (begun_in (gate_log account home)) b → home < length account.gates
          home-there home b h = elim (cases_lt home (length account.gates)) [
            | inl below ↦ below
            | inr past ↦ absurd (has_none b (subst (λ l. Contains (begun_in l) b) (get_or_past account.gates home [] past) h))
          ]

      of-visit : (i : ℕ) (w : Visit) → Contains (visits_of (shard_log account i)) w → IsTrue w.settled → w.request ≡ r → seen_last (shard_log account i) w ≡ events → ⊥
      of-visit i w h marked one seen =
          let its = is.oracle.marked i w h marked in
          let later : (settled_entry its.entry).later ≡ stamp = its.later_is ∙ stamp-of i w h one in
          let earlier : (settled_entry its.entry).earlier ≡ events = its.earlier_is ∙ seen in
          both_ways (made_entry entries) (nothing-made (λ x has. subst (λ t. IsTrue (precedes pairs x t)) later
          (each-precede basis.laws [] account.oracle is.oracle.log its.entry its.is_there x (subst (λ es. Contains es x) (sym earlier) has)))) made

  once-now : AllPairs (λ (a b : ℕ × List Stamp). a ≢ b) (flat_map marked_in next.shards)
  once-now = by (made_entry entries) refl (visited.marks-push log r stamp v k (made_entry entries))
    where
      by : (b : Bool) → made_entry entries ≡ b → marked_in (log ++ entry ∷ []) ≡ marked_in log ++ cond b ((r, events) ∷ []) [] → AllPairs (λ (a b : ℕ × List Stamp). a ≢ b) (flat_map marked_in next.shards)
      by false e push = subst (AllPairs (λ (a b : ℕ × List Stamp). a ≢ b)) (sym (flat-set marked_in account.shards s (log ++ entry ∷ []) (shard-within is s inside) (push ∙ append-nil (marked_in log)))) is.oracle.once
      by true e push =
          let set : SetMore marked_in account.shards s (log ++ entry ∷ []) ((r, events) ∷ []) = flat-more marked_in account.shards s (log ++ entry ∷ []) ((r, events) ∷ []) (shard-within is s inside) push in
          subst (AllPairs (λ (a b : ℕ × List Stamp). a ≢ b)) (sym set.now) (pairs-into (λ (a b : ℕ × List Stamp). a ≢ b) set.front (r, events) set.back (subst (AllPairs (λ (a b : ℕ × List Stamp). a ≢ b)) set.was is.oracle.once)
          (λ y h. fresh-mark e y (subst (λ ys. Contains ys y) (sym set.was) (Contains-append_left set.front set.back y h)))
          (λ y h same. fresh-mark e y (subst (λ ys. Contains ys y) (sym set.was) (Contains-append_right set.front set.back y h)) (sym same)))

  -- The account goes on

  -- the visit of a begun program to its next vertex, at a shard that is ready for it, keeps a core
  pub visited-keeps : IsCore script (record { account = next; notices = state.notices })
  visited-keeps = record {
    account = record {
      gatekeepers = record { as_many = is.gatekeepers.as_many; logs = is.gatekeepers.logs; begins = λ home before e rest at. basis.laws.accounts.stay_begins script account next basis.limits is on is.gatekeepers.once home before rest e at; once = is.gatekeepers.once };
      clocks = record { known = λ home clock h. basis.laws.accounts.stay_clocks script account next on clock (is.clocks.known home clock h); hears_no_more = is.clocks.hears_no_more };
      sessions = record { logs = is.sessions.logs; stamps = is.sessions.stamps; replies = replies-stay basis.laws script account next basis.limits is on; finished_are_replied = is.sessions.finished_are_replied };
      store = store-stays basis.laws script account next basis.limits is on refl;
      oracle = record {
        log = settled.right;
        asked = λ e h. elim (Contains-append_cases account.oracle entries e h) [
          | inl old ↦ basis.laws.accounts.stay_asked script account next basis.limits is on (settled_entry e) (is.oracle.asked e old)
          | inr new ↦ inr (asked-now e new)
        ];
        marked = marked-now;
        once = once-now;
      };
      channels = sends-stay basis.laws script account next basis.limits is on;
      shards = record {
        as_many = length-set account.shards s (log ++ entry ∷ []) ∙ is.shards.as_many;
        deeds = each-set account.shards s (shard-within is s inside) entry (ShardRule script next) (deeds-stay basis.laws script account next basis.limits is on) fits;
      };
      programs = programs;
    };
    sessions = basis.core.sessions;
    notices = λ clock h. basis.laws.accounts.stay_clocks script account next on clock (basis.core.notices clock h);
  }
