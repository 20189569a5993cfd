-- Of two listed requests that meet at a vertex, one precedes the other. It rests on the clauses on the store, shards
-- and programs.
-- Used by `programs_read_the_graph_at_their_place`, `stamps_are_begun`, KnownClocks, OneReport, PlacedPairs,
-- RightReport, VisitedPairs and VisitsStay.
use Rattle.std.proofs.Common.{◌≡◌, ℕ, zero, suc, ◌<◌, false, ◌==◌, ◌||◌, List, [], ◌∷◌, ◌++◌, length, take, drop, Contains, IsTrue, Some, ◌⊎◌, inl, inr, refl, sym, ap, subst, ◌∙◌, arith}
use Rattle.std.specs.Prelude.{IsSomeAnd, if◌then◌else◌}
use Rattle.std.specs.List.{filter}
use Rattle.std.specs.Map.{keys_of}
use Rattle.std.proofs.lemmas.Bool.{or_cases, or_left, or_right, eq-eqb, eqb-true, ne_eqb}
use Rattle.std.proofs.lemmas.List.Elements.{Contains-append_cases}
use Rattle.weave_data.proofs.Members.{has_head, has_tail, filter_has, has_filter, cut_at}
use Rattle.vector_stamp.specs.declared.clock.Stamp.{Stamp}
use Rattle.weave_data.specs.Names.{same_name, one_name}
use Rattle.weave_data.specs.declared.name.Name.{Name}
use Rattle.graph_ops.specs.Mentions.{is_among}
use Rattle.graph_ops.specs.Operations.{State}
use Rattle.graph_ops.specs.PlainGraph.{PlainGraph, empty_graph}
use Rattle.program_defs.specs.declared.script.Request.{Request}
use Rattle.program_defs.specs.declared.script.Script.{Script}
use Rattle.program_defs.specs.Visits.{graph_read, IsVisited}
use Rattle.weave_entries.specs.declared.shard_log.ShardEntry.{ShardEntry}
use Rattle.weave_entries.specs.ShardReplay.{Visit, updates_of, visit_by, visits_of, reads_in}
use Rattle.weave_entries.specs.ShardReplay as shard
use Rattle.weave_entries.specs.StoreReplay.{Commit, names_vertex as names, commits_naming}
use Rattle.weave_data.proofs.Entries.{each_before}
use Rattle.report_rules.specs.declared.report.Report.{Report}
use Rattle.program_defs.specs.Works.{is_change}
use Rattle.report_rules.specs.Meetings.{is_transaction, WorkIsAt, RequestIsAt, MeetAt, MeetingsAreOrdered}
use Rattle.report_rules.specs.Replay.{graph_after, graph_before, graph_at_place}
use Rattle.report_rules.specs.Lookups.{is_in, is_some_and, request_at, request_names_vertex, work_names, RequestPrecedes}
use Rattle.weave_account.specs.declared.account.Account.{Account}
use Rattle.weave_account.specs.Account.{shard_log, stamp_of, commits_in, reads_of}
use Rattle.weave_account.proofs.Replaying.{graph_after_all, AllPass, all-pass-left}
use Rattle.weave_account.specs.Shards.{AreShardDeeds, IsRightVisit, ShardFitsAs}
use Rattle.weave_account.specs.Report.{IsReportOfAccount}
use Rattle.weave_account.proofs.Beginning.{program-stamp}
use Rattle.weave_account.proofs.Cutting.{IsNotAfter, either}
use Rattle.weave_account.proofs.Listed.{IsListedTx, IsListedProgram, listed-is}
use Rattle.weave_data.proofs.Images.{map-has, flat-has, within-list}
use Rattle.weave_data.proofs.Numbers.{has-in, IsSorted, in-head, in-tail, in-filter, sorted-at}
use Rattle.weave_account.proofs.Ordering.{RequestBefore, not-both, by-stamps}
use Rattle.weave_account.proofs.Printing.{order-sorted, order-has}
use Rattle.weave_account.proofs.ReplayClause.{all-read, each-comes, reads-agree}
use Rattle.weave_account.proofs.ReadingPlace.{visited-deed}
use Rattle.weave_account.proofs.ReplayInTurn.{all-pass}
use Rattle.weave_account.proofs.Replying.{place-of}
use Rattle.weave_account.proofs.Sessions.{take-drop}
use Rattle.weave_account.proofs.Storing.{work-named}
use Rattle.weave_account.proofs.Replies.{same-precedence, convert}
use Rattle.weave_account.proofs.Transactions.{known, naming-sorted, listed-commits}
use Rattle.weave_account.proofs.Visiting.{seen-precede, others-follow}
use Rattle.weave_account.proofs.Basis.{Basis}
use Rattle.program_defs.specs.Visits.{IsListOfVisits}
use Rattle.weave_account.specs.Programs.{visits_over}
use Rattle.weave_account.proofs.ReadingPlace.{reads-are}

-- The graph at a place

-- the graph at a place is what the requests before it leave
pub place-is : (script : Script) (r : ℕ) (before after : List ℕ) (graph : PlainGraph) → ¬ IsTrue (is_in r before)
    → graph_before r graph script (before ++ r ∷ after) ≡ graph_after_all graph script before
place-is script r [] after graph new =
    ap (λ b. if b then graph else graph_before r (graph_after graph (request_at script r)) script after) (eq-eqb r r refl)
place-is script r (x ∷ before) after graph new =
    ap (λ b. if b then graph else graph_before r (graph_after graph (request_at script x)) script (before ++ r ∷ after))
    (ne_eqb x r (λ same. new (subst (λ k. IsTrue (is_in k (x ∷ before))) same (in-head x before))))
    ∙ place-is script r before after (graph_after graph (request_at script x)) (λ h. new (in-tail r x before h))

-- A visit of a program

-- a program has a visit of the vertex
pub record HasVisit (script : Script) (account : Account) (p : ℕ) (v : Name) : Type 0 where
  pub number : ℕ
  pub log : List ShardEntry
  pub inside : number < script.shards
  pub each : AreShardDeeds script account number log
  pub stamp : Stamp
  pub updates : ℕ
  pub visit : IsRightVisit script account number log p stamp v updates

module _ (script : Script) (account : Account) (basis : Basis script account) where
  -- a visit of a log is one of its program
  pub visit-there : (number : ℕ) (visit : Visit) → Contains (visits_of (shard_log account number)) visit
      → HasVisit script account visit.request visit.vertex
  visit-there number visit h =
      let entry = flat-has (λ (e : ShardEntry). visit_by e.author e.deed) (shard_log account number) visit h in
      let place = cut_at (shard_log account number) entry.0 entry.1.0 in
      record {
        number = number;
        log = place.before;
        inside = (let lt = within-list account.shards number entry.0 entry.1.0 in let many = basis.is.shards.as_many in omega (arith, lt, many));
        each = each_before (λ before (entry : ShardEntry). ShardFitsAs script account number before entry.deed) place.before (entry.0 ∷ place.after) (subst (AreShardDeeds script account number) place.is (basis.is.shards.deeds number));
        stamp = visit.stamp;
        updates = visit.updates;
        visit = visited-deed script account number place.before (entry.0).author (entry.0).deed visit entry.1.1 (basis.is.shards.deeds number place.before entry.0 place.after place.is);
      }

  -- a visit is right after the entries before it
  pub record IsFitting (number : ℕ) (visit : Visit) : Type 0 where
    pub before : List ShardEntry
    pub rest : List ShardEntry
    pub is : shard_log account number ≡ before ++ rest
    pub fits : IsRightVisit script account number before visit.request visit.stamp visit.vertex visit.updates

  -- each visit is right where it was made
  pub visit-fits : (number : ℕ) (visit : Visit) → Contains (visits_of (shard_log account number)) visit → IsFitting number visit
  visit-fits number visit h =
      let entry = flat-has (λ (e : ShardEntry). visit_by e.author e.deed) (shard_log account number) visit h in
      let place = cut_at (shard_log account number) entry.0 entry.1.0 in
      record { before = place.before; rest = entry.0 ∷ place.after; is = place.is; fits = visited-deed script account number place.before (entry.0).author (entry.0).deed visit entry.1.1 (basis.is.shards.deeds number place.before entry.0 place.after place.is) }

  -- a visit in a shard's log has the stamp that the account has for its request
  pub visit-stamp : (number : ℕ) (visit : Visit) → Contains (visits_of (shard_log account number)) visit
      → stamp_of account visit.request ≡ Some visit.stamp
  visit-stamp number visit h =
      let fits = (visit-fits number visit h).fits in
      program-stamp account basis.is.gatekeepers.once fits.home fits.author visit.request visit.stamp fits.begun

  -- what a program read it visited
  pub read-visited : (p : ℕ) (read : Name × State) → Contains (reads_of account p) read → HasVisit script account p read.0
  read-visited p read h =
      let from = flat-has (reads_in p) account.shards read h in
      let number = place-of account.shards from.0 from.1.0 in
      let image =
      map-has (λ (visit : Visit). (visit.vertex, shard.state_of_updates (take visit.updates (updates_of visit.vertex from.0))))
      (filter (λ (visit : Visit). visit.request == p) (visits_of from.0)) read from.1.1 in
      let parts = filter_has (λ (visit : Visit). visit.request == p) (visits_of from.0) image.of image.has in
      let there = visit-there number.0 image.of (subst (λ l. Contains (visits_of l) image.of) (sym number.1) parts.0) in
      subst (λ r. HasVisit script account r read.0) (eqb-true (image.of).request p parts.1)
      (subst (λ w. HasVisit script account (image.of).request w) (ap (λ (q : Name × State). q.0) image.is) there)

  -- each vertex that was read for a program has a visit by it
  pub key-visited : (p : ℕ) (v : Name) → IsTrue (is_among (keys_of (reads_of account p)) v) → HasVisit script account p v
  key-visited p v h = from (reads_of account p) (λ read k. read-visited p read k) h
    where
      from : (reads : List (Name × State)) → ((read : Name × State) → Contains reads read → HasVisit script account p read.0)
          → IsTrue (is_among (keys_of reads) v) → HasVisit script account p v
      from [] f h = cc
      from (read ∷ reads) f h = elim (or_cases (same_name read.0 v) _ h) [
        | inl same ↦ subst (λ w. HasVisit script account p w) (one_name read.0 v same) (f read (has_head read reads))
        | inr more ↦ from reads (λ other k. f other (has_tail read reads other k)) more
      ]

module _ (script : Script) (account : Account) (basis : Basis script account) (report : Report) (reported : IsReportOfAccount script account report) where
  -- a commit that names a vertex visited precedes the program, or follows it
  visit-orders : (p : ℕ) (v : Name) → HasVisit script account p v → (commit : Commit)
      → Contains (commits_naming v (commits_in account)) commit
      → RequestBefore script account commit.request p ⊎ RequestBefore script account p commit.request
  visit-orders p v has commit h =
      let naming = commits_naming v (commits_in account) in
      let stamp-p : stamp_of account p ≡ Some has.stamp =
      program-stamp account basis.is.gatekeepers.once (has.visit).home (has.visit).author p has.stamp (has.visit).begun in
      let stamp-c = (known script account basis report reported commit (filter_has (names v) (commits_in account) commit h).0).stamp in
      elim (Contains-append_cases (take has.updates naming) (drop has.updates naming) commit (subst (λ cs. Contains cs commit) (take-drop naming has.updates) h)) [
        | inl seen ↦ inl (by-stamps script account commit.request p commit.stamp has.stamp stamp-c stamp-p (seen-precede script account basis has.number has.inside has.log has.each p has.stamp v has.updates has.visit commit seen))
        | inr other ↦ inr (by-stamps script account p commit.request has.stamp commit.stamp stamp-p stamp-c (others-follow script account basis has.number has.inside has.log has.each p has.stamp v has.updates has.visit commit other))
      ]

  -- at the place of a listed request in the order, what is before it passes and leaves the graph at its place
  record IsPlacedAt (p : ℕ) : Type 0 where
    before : List ℕ
    after : List ℕ
    is : report.order ≡ before ++ p ∷ after
    passes : AllPass empty_graph script before
    graph : graph_at_place script report p ≡ graph_after_all empty_graph script before

  placed : (p : ℕ) → IsTrue (is_in p report.order) → IsPlacedAt p
  placed p h =
      let place = cut_at report.order p (has-in report.order p h) in
      let sorted : IsSorted (IsNotAfter (RequestPrecedes report)) (place.before ++ p ∷ place.after) =
      subst (IsSorted (IsNotAfter (RequestPrecedes report))) place.is (order-sorted report report.order reported.order) in
      let new : ¬ IsTrue (is_in p place.before) =
      λ k. (sorted-at (IsNotAfter (RequestPrecedes report)) place.before (p ∷ place.after) p p sorted k (in-head p place.after)).0 refl in
      record {
        before = place.before;
        after = place.after;
        is = place.is;
        passes = all-pass-left script place.before (p ∷ place.after) empty_graph (subst (AllPass empty_graph script) place.is (all-pass script report (each-comes script account basis report reported)));
        graph = ap (graph_before p empty_graph script) place.is ∙ place-is script p place.before place.after empty_graph new;
      }

  -- each state that a listed program read is that of the graph at its place
  pub read-at : (p : ℕ) → IsTrue (is_in p report.order) → (read : Name × State) → Contains (reads_of account p) read
      → read.1 ≡ graph_at_place script report p read.0
  read-at p h read k =
      let place = placed p h in
      reads-are script account basis report reported p place.before place.after place.is place.passes read k
      ∙ ap (λ (g : PlainGraph). g read.0) (sym place.graph)

  -- the list of visits of a finished program at its place is that over what it read
  list-at-place : (p : ℕ) → IsTrue (is_in p report.order) → (program : IsListedProgram script account report p)
      → IsListOfVisits (graph_at_place script report p) program.program (visits_over (reads_of account p) program.program)
  list-at-place p h program =
      let place = placed p h in
      let agree = reads-agree script account basis report reported place.before p place.after place.is place.passes program in
      subst (λ (g : PlainGraph). IsListOfVisits g program.program (visits_over (reads_of account p) program.program)) (sym place.graph)
      (basis.laws.visits_alike (graph_read (reads_of account p)) (graph_after_all empty_graph script place.before) program.program _ agree (basis.laws.visits_whole (reads_of account p) program.program))

  -- each vertex that a listed program visits, in the graph at its place in the order, was read for it
  pub visited-read : (p : ℕ) → IsTrue (is_in p report.order) → (program : IsListedProgram script account report p) → (v : Name)
      → IsVisited (graph_at_place script report p) program.program v → IsTrue (is_among (keys_of (reads_of account p)) v)
  visited-read p h program v visited =
      let turn = basis.is.programs p program.request program.program program.request_is program.work in
      all-read basis.laws (reads_of account p) program.program (turn.whole (program.matched).0) v ((list-at-place p h program).whole v visited)

  -- Meetings

  -- a listed transaction that names the vertex is a commit that does
  commit-of-tx : (v : Name) (r : ℕ) → IsTrue (is_in r report.order) → IsTrue (request_names_vertex script r v)
      → (commit : Commit) × Contains (commits_naming v (commits_in account)) commit × (commit.request ≡ r)
  commit-of-tx v r h named =
      let image =
      map-has (λ (c : Commit). c.request) (commits_in account) r (has-in _ r (listed-commits script account basis report reported v r h named)) in
      let of = known script account basis report reported image.of image.has in
      let names-it : IsTrue (names v image.of) =
      subst IsTrue (work-named (request_at script (image.of).request) (image.of).ops v of.work)
      (subst (λ k. IsTrue (request_names_vertex script k v)) (sym image.is) named) in
      (image.of, has_filter (names v) (commits_in account) image.of image.has names-it, image.is)

  tx-named : (v : Name) (r : ℕ) → IsListedTx script account report r → RequestIsAt script report v r → IsTrue (request_names_vertex script r v)
  tx-named v r tx at =
      let here : WorkIsAt script report v r (tx.request).work =
      subst (λ q. IsSomeAnd q (λ (request : Request). WorkIsAt script report v r request.work)) tx.request_is at in
      subst (λ q. IsTrue (is_some_and (λ (request : Request). work_names v request.work) q)) (sym tx.request_is)
      (subst (λ w. IsTrue (work_names v w)) (sym tx.work) (subst (λ w. WorkIsAt script report v r w) tx.work here))

  program-visits : (v : Name) (p : ℕ) → IsTrue (is_in p report.order) → (program : IsListedProgram script account report p)
      → RequestIsAt script report v p → HasVisit script account p v
  program-visits v p h program at =
      let here : WorkIsAt script report v p (program.request).work =
      subst (λ q. IsSomeAnd q (λ (request : Request). WorkIsAt script report v p request.work)) program.request_is at in
      key-visited script account basis p v (visited-read p h program v (subst (λ w. WorkIsAt script report v p w) program.work here))

  no-change : (p : ℕ) → IsListedProgram script account report p → is_transaction script p ≡ false
  no-change p program =
      ap (is_some_and (λ (request : Request). is_change request.work)) program.request_is ∙ ap is_change program.work

  meet : (v : Name) (a b : ℕ) → MeetAt script report v a b → RequestBefore script account a b ⊎ RequestBefore script account b a
  meet v a b m =
      at (listed-is script account report reported.matches a (order-has report report.order reported.order a m.first_is_listed).1)
      (listed-is script account report reported.matches b (order-has report report.order reported.order b m.second_is_listed).1)
    where
      at : IsListedTx script account report a ⊎ IsListedProgram script account report a
          → IsListedTx script account report b ⊎ IsListedProgram script account report b
          → RequestBefore script account a b ⊎ RequestBefore script account b a
      at (inl x) (inl y) =
          let in-a =
          in-filter (λ r. request_names_vertex script r v) a _
          (listed-commits script account basis report reported v a m.first_is_listed (tx-named v a x m.first_is_there))
          (tx-named v a x m.first_is_there) in
          let in-b =
          in-filter (λ r. request_names_vertex script r v) b _
          (listed-commits script account basis report reported v b m.second_is_listed (tx-named v b y m.second_is_there))
          (tx-named v b y m.second_is_there) in
          elim (either (RequestBefore script account) (not-both script account basis) _ a b (naming-sorted script account basis report reported v) in-a in-b) [ inl same ↦ absurd (m.different same) | inr other ↦ other ]
      at (inl x) (inr q) =
          let c = commit-of-tx v a m.first_is_listed (tx-named v a x m.first_is_there) in
          subst (λ k. RequestBefore script account k b ⊎ RequestBefore script account b k) c.2
          (visit-orders b v (program-visits v b m.second_is_listed q m.second_is_there) c.0 c.1)
      at (inr p) (inl y) =
          let c = commit-of-tx v b m.second_is_listed (tx-named v b y m.second_is_there) in
          elim (subst (λ k. RequestBefore script account k a ⊎ RequestBefore script account a k) c.2 (visit-orders a v (program-visits v a m.first_is_listed p m.first_is_there) c.0 c.1)) [ inl first ↦ inr first | inr second ↦ inl second ]
      at (inr p) (inr q) =
          let none : IsTrue (false || false) = subst (λ k. IsTrue (false || k)) (no-change b q) (subst (λ k. IsTrue (k || is_transaction script b)) (no-change a p) m.one_changes) in cc

  -- of two requests that meet one precedes the other
  pub meetings : MeetingsAreOrdered script report
  meetings v a b m = elim (meet v a b m) [
    | inl first ↦ inl (convert (sym (same-precedence script account report reported.matches basis a b)) first)
    | inr second ↦ inr (convert (sym (same-precedence script account report reported.matches basis b a)) second)
  ]

  -- and each vertex read is visited at the program's place
  pub read-visited-there : (p : ℕ) → IsTrue (is_in p report.order) → (program : IsListedProgram script account report p)
      → (v : Name) → IsTrue (is_among (keys_of (reads_of account p)) v)
      → IsVisited (graph_at_place script report p) program.program v
  read-visited-there p h program v key =
      let list = list-at-place p h program in
      let turn = basis.is.programs p program.request program.program program.request_is program.work in
      let there = among-take (length (reads_of account p)) (visits_over (reads_of account p) program.program) v ((turn.first_ones v).0 key) in
      (list.last_level, subst (λ vs. IsTrue (is_among vs v)) list.in_turn there)
    where
      among-take : (n : ℕ) (xs : List Name) (v : Name) → IsTrue (is_among (take n xs) v) → IsTrue (is_among xs v)
      among-take zero xs v h = cc
      among-take (suc n) [] v h = h
      among-take (suc n) (x ∷ xs) v h =
          elim (or_cases (same_name x v) _ h) [ inl same ↦ or_left _ _ same | inr more ↦ or_right (same_name x v) _ (among-take n xs v more) ]
