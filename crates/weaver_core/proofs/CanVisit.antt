-- A running program can visit any vertex, and can be finished.
-- Used by `visit`, Authors, BegunProgram, FinishDone, Marked, MarksFound and ProgramStamped.
use Rattle.std.proofs.Common.{◌≡◌, ◌≢◌, ℕ, zero, suc, ◌<◌, false, List, [], ◌∷◌, ◌++◌, length, take, drop, Contains, IsTrue, Option, None, Some, inl, inr, refl, sym, ap, subst, ◌∙◌, arith, take-append-drop}
use Rattle.std.specs.Prelude.{◌==◌, IsSomeAnd, slice_index_or}
use Rattle.std.specs.List.{flat_map, list_any}
use Rattle.std.proofs.lemmas.Bool.{and_from, both_ways, eq-eqb, eqb-true}
use Rattle.std.proofs.lemmas.List.Elements.{All-from_recursion, Contains-append_cases, Contains-append_right, Contains-get_or}
use Rattle.weave_data.proofs.Members.{any_from, filter_has, find_has, flat_has, has_flat, has_map, has_none, has_read, has_head, has_tail, map_has}
use Rattle.weave_data.proofs.ListPlaces.{all-from}
use Rattle.weave_data.specs.Names.{shard_of}
use Rattle.weave_data.specs.declared.name.Name.{Name}
use Rattle.vector_stamp.specs.declared.clock.Stamp.{Stamp}
use Rattle.vector_stamp.specs.Order.{id_of}
use Rattle.order_graph.specs.Building.{ends_of}
use Rattle.program_defs.specs.Limits.{IsWithinLimits}
use Rattle.program_defs.specs.declared.program.Program.{Program}
use Rattle.program_defs.specs.declared.script.Request.{Request}
use Rattle.program_defs.specs.declared.script.Script.{Script}
use Rattle.program_defs.specs.declared.script.Work.TheVariants.{Change, Look}
use Rattle.report_rules.specs.Lookups.{is_in, request_at}
use Rattle.weave_entries.specs.declared.gate_log.GateEntry.{GateEntry}
use Rattle.weave_entries.specs.declared.shard_log.ShardEntry.{ShardEntry}
use Rattle.weave_entries.specs.declared.store_log.StoreEntry.{StoreEntry}
use Rattle.weave_entries.specs.declared.store_log.StoreDeed.{StoreDeed}
use Rattle.weave_entries.specs.declared.store_log.StoreDeed.TheVariants.{Judged}
use Rattle.weave_entries.specs.declared.verdict.Verdict.TheVariants.{Committed, Conflict, Refused}
use Rattle.weave_entries.specs.GateReplay.{BegunRequest, begun_in, ended_in, is_begun, program_begun, programs_of, running_of}
use Rattle.weave_entries.specs.ShardReplay.{Update, updates_of}
use Rattle.weave_entries.specs.ShardRules.{IsKeptFor, dropped_of, kept_stamps, update_stamps}
use Rattle.weave_entries.specs.StoreReplay.{Commit, Judgement, commit_by, commits_naming, commits_of, judged_by, judgements_of, names_vertex}
use Rattle.weave_account.specs.declared.account.Account.{Account}
use Rattle.weave_account.specs.Account.{IsBegunStamp, all_begun, begun_stamps, commits_in, gate_log, is_ended, pairs_in, shard_log}
use Rattle.weave_account.specs.IsAccount.{IsAccount}
use Rattle.weave_account.specs.Shards.{update_of}
use Rattle.weave_entries.proofs.OwnStamps.{program-begun}
use Rattle.weaver_core.specs.Visiting.{CanBeVisited}
use Rattle.weaver_core.proofs.CitedLaws.{AskedLaws, BegunLaws, CommitLaws, RunLaws}
use Rattle.step_rules.proofs.VisitLogs.{in-take}

-- the laws that are cited of visits
pub record CanVisitLaws : Type 0 where
  pub stamps : BegunLaws
  pub commits : CommitLaws
  pub asked : AskedLaws
  -- in an account within limits, the stamps of a vertex's updates are of begun requests (`stamps_are_begun`)
  pub updates : (script : Script) (account : Account) → IsWithinLimits script → IsAccount script account → (v : Name) (shard : ℕ) (update : Update) → Contains (updates_of v (shard_log account shard)) update → IsBegunStamp account update.stamp
  -- within limits, a vertex's shard keeps what running programs need (`collections_leave_what_programs_see`)
  pub kept : (script : Script) (account : Account) → IsWithinLimits script → IsAccount script account → (home : ℕ) (program : BegunRequest) → Contains (running_of (gate_log account home)) program
      → (v : Name) → IsKeptFor program.stamp v (shard_log account (shard_of v script.shards))

-- Members

-- a stamp that is kept is that of an update
kept-of-update : (v : Name) (log : List ShardEntry) (stamp : Stamp) → Contains (kept_stamps v log) stamp → Contains (update_stamps v log) stamp
kept-of-update v log stamp h =
    let n = dropped_of v log in
    let stamps = update_stamps v log in
    subst (λ (all : List Stamp). Contains all stamp) (take-append-drop n stamps) (Contains-append_right (take n stamps) (drop n stamps) stamp h)

-- a commit was judged
commit-deed : (author : ℕ) (deed : StoreDeed) (c : Commit) → Contains (commit_by deed) c → ((judged_by author deed).request ≡ c.request) × ((judged_by author deed).stamp ≡ c.stamp)
commit-deed author (Judged r stamp ops asked (Committed number answers counts)) c h = elim (has_read _ [] c h) [
  | inl same ↦ (ap (λ (one : Commit). one.request) same, ap (λ (one : Commit). one.stamp) same)
  | inr none ↦ absurd (has_none c none)
]
commit-deed author (Judged r stamp ops asked (Conflict v newer)) c h = absurd (has_none c h)
commit-deed author (Judged r stamp ops asked (Refused op reason at)) c h = absurd (has_none c h)

-- a commit in the store's log is of a judgement there, with its request and its stamp
pub commit-judged : (store : List StoreEntry) (c : Commit) → Contains (commits_of store) c → (judged : Judgement) × (Contains (judgements_of store) judged × ((judged.request ≡ c.request) × (judged.stamp ≡ c.stamp)))
commit-judged store c h =
    let from = flat_has (λ (entry : StoreEntry). commit_by entry.deed) store c h in
    (judged_by from.0.author from.0.deed, (has_map (λ (entry : StoreEntry). judged_by entry.author entry.deed) store from.0 from.1, commit-deed from.0.author from.0.deed c from.2))

-- a program of some log is among all that was begun
pub inside : (b : BegunRequest) (gates : List (List GateEntry)) (n : ℕ) → Contains (programs_of (slice_index_or gates n [])) b → Contains (flat_map begun_in gates) b
inside b [] n has = absurd (has_none b has)
inside b (log ∷ gates) zero has = has_flat begun_in (log ∷ gates) log b (has_head log gates) (program-begun log b has)
inside b (log ∷ gates) (suc n) has =
    let from = flat_has begun_in gates b (inside b gates n has) in
    has_flat begun_in (log ∷ gates) from.0 b (has_tail log gates from.0 from.1) from.2

module _ (run : RunLaws) (script : Script) (account : Account) (limits : IsWithinLimits script) (is : IsAccount script account) (r : ℕ) (request : Request) (request-is : request_at script r ≡ Some request)
    (program : Program) (looks : request.work ≡ Look program) (begun : BegunRequest) (begun-is : program_begun r (gate_log account request.gate) ≡ Some begun) (runs : is_ended account r ≡ false) where
  abbrev log : List GateEntry
  log = gate_log account request.gate

  found : Contains (programs_of log) begun × IsTrue (begun.request == r)
  found = find_has (λ (one : BegunRequest). one.request == r) (programs_of log) begun begun-is

  its-request : begun.request ≡ r
  its-request = eqb-true begun.request r found.1

  gate-there : request.gate < length account.gates
  gate-there = let home = limits.homes r request request-is in let many = is.gatekeepers.as_many in omega (arith, home, many)

  log-there : Contains account.gates log
  log-there = Contains-get_or account.gates request.gate [] gate-there

  -- the program is among all that was begun
  pub among-begun : Contains (all_begun account) begun
  among-begun = has_flat begun_in account.gates log begun log-there (program-begun log begun found.0)

  -- the program that is running has not ended at its gatekeeper
  pub not-ended : ¬ Contains (ended_in log) begun.request
  not-ended h =
      let ended : IsTrue (is_in r (flat_map ended_in account.gates)) = any_from (λ (n : ℕ). r == n) (flat_map ended_in account.gates) begun.request (has_flat ended_in account.gates log begun.request log-there h) (eq-eqb r begun.request (sym its-request)) in
      both_ways (is_ended account r) runs ended

  -- the program is among those that its gatekeeper runs
  pub is-running : Contains (running_of log) begun
  is-running = (run.running request.gate script.shards log (is.gatekeepers.logs request.gate) (run.once script account limits is request.gate) begun).1 (found.0, not-ended)

  -- and it runs there in the name of the author of its begin
  pub runs-there : IsTrue (list_any (is_begun begun.author r) (running_of log))
  runs-there = any_from (is_begun begun.author r) (running_of log) begun is-running (and_from (begun.author == begun.author) (begun.request == r) (eq-eqb begun.author begun.author refl) found.1)

  -- no update's stamp has its id
  no-change : (o : Option Request) (judged : Judgement) → o ≡ Some request → IsSomeAnd o (λ (one : Request). one.work ≡ Change judged.ops) → ⊥
  no-change None judged e h = absurd h
  no-change (Some one) judged e h = let same : one ≡ request = cc in let both : Change judged.ops ≡ Look program = sym h ∙ ap (λ (q : Request). q.work) same ∙ looks in cc

  module _ (laws : CanVisitLaws) (v : Name) where
    abbrev here : List ShardEntry
    here = shard_log account (shard_of v script.shards)

    update-differs : (stamp : Stamp) → Contains (update_stamps v here) stamp → id_of stamp ≢ id_of begun.stamp
    update-differs stamp h =
        let updates = updates_of v here in
        let from = map_has (λ (update : Update). update.stamp) updates stamp h in
        let commit = map_has (update_of v) (take (length updates) (commits_naming v (commits_in account))) from.0 (subst (λ (us : List Update). Contains us from.0) (laws.commits.whole script account limits is v) from.1) in
        let in-all = (filter_has (names_vertex v) (commits_in account) commit.0 (in-take (length updates) (commits_naming v (commits_in account)) commit.0 commit.1)).0 in
        let judged = commit-judged account.store commit.0 in-all in
        let other : judged.0.request ≢ begun.request = λ (e : judged.0.request ≡ begun.request).
        no-change (request_at script judged.0.request) judged.0 (ap (request_at script) (e ∙ its-request) ∙ request-is) (laws.commits.work script account limits is judged.0 judged.1.0) in
        let apart = laws.stamps.differ script account limits is (record { author = judged.0.author; request = judged.0.request; stamp = judged.0.stamp }) begun (laws.stamps.begun script account limits is judged.0 judged.1.0) among-begun other in
        subst (λ (s : Stamp). id_of s ≢ id_of begun.stamp) (judged.1.1.1 ∙ ap (λ (u : Update). u.stamp) commit.2 ∙ from.2) apart

    known : (stamp : Stamp) → Contains (begun.stamp ∷ kept_stamps v here ++ ends_of (pairs_in account)) stamp → Contains (begun_stamps account) stamp
    known stamp h = elim (has_read begun.stamp (kept_stamps v here ++ ends_of (pairs_in account)) stamp h) [
      | inl same ↦ subst (λ (s : Stamp). Contains (begun_stamps account) s) same (has_map (λ (b : BegunRequest). b.stamp) (all_begun account) begun among-begun)
      | inr rest ↦ elim (Contains-append_cases (kept_stamps v here) (ends_of (pairs_in account)) stamp rest) [
        | inl kept ↦
            let from = map_has (λ (update : Update). update.stamp) (updates_of v here) stamp (kept-of-update v here stamp kept) in
            subst (λ (s : Stamp). Contains (begun_stamps account) s) from.2 (laws.updates script account limits is v (shard_of v script.shards) from.0 from.1)
        | inr end ↦
            let from = laws.asked.no_others (pairs_in account) stamp end in
            let both = laws.asked.paired script account limits is from.0.0 from.0.1 from.1 in
            elim from.2 [
              | inl first ↦ subst (λ (s : Stamp). Contains (begun_stamps account) s) first both.0
              | inr second ↦ subst (λ (s : Stamp). Contains (begun_stamps account) s) second both.1
            ]
      ]
    ]

    -- the shard of any vertex can be asked for that vertex for the program
    pub can-be-visited : CanBeVisited account.oracle here begun.stamp v
    can-be-visited = record {
      other_ids = All-from_recursion (λ (stamp : Stamp). id_of stamp ≢ id_of begun.stamp) (kept_stamps v here) (all-from (λ (stamp : Stamp). id_of stamp ≢ id_of begun.stamp) (kept_stamps v here) (λ stamp h. update-differs stamp (kept-of-update v here stamp h)));
      coherent = laws.asked.part (begun.stamp ∷ kept_stamps v here ++ ends_of (pairs_in account)) (begun_stamps account) (laws.stamps.coherent script account limits is) known;
      base = laws.kept script account limits is request.gate begun is-running v;
    }
