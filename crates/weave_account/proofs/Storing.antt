-- The commits of an account's store, as requests of the script: they replay to the store's graph, and at each vertex
-- each precedes each later one.
-- Used by ConflictsClause, Heads, Listed, Meeting, NumbersClause, OneReport, Ordering, PairsClause, PhasesKept,
-- PlacedPairs, ReadingPlace, RefusalsClause, Transactions and Unprocessed.
use Rattle.std.proofs.Common.{◌≡◌, ◌≢◌, ℕ, List, [], ◌∷◌, ◌++◌, map, Contains, AllPairs, Option, Some, None, refl, sym, ap, subst, ◌∙◌}
use Rattle.std.specs.Prelude.{IsSomeAnd, ⊤}
use Rattle.std.proofs.lemmas.List.{append-nil, map-append}
use Rattle.std.proofs.lemmas.List.Concat.{flat_map-append}
use Rattle.std.proofs.lemmas.List.Sums.{fold-append}
use Rattle.weave_data.proofs.Members.{has_none, cut_at, only}
use Rattle.vector_stamp.specs.declared.clock.Stamp.{Stamp}
use Rattle.weave_data.specs.declared.name.Name.{Name}
use Rattle.graph_ops.specs.Mentions.{named_by, is_among}
use Rattle.graph_ops.specs.PlainGraph.{PlainGraph, empty_graph, transaction, graph_left}
use Rattle.graph_ops.specs.declared.op.Op.{Op}
use Rattle.program_defs.specs.declared.script.Request.{Request}
use Rattle.program_defs.specs.declared.script.Script.{Script}
use Rattle.program_defs.specs.declared.script.Work.{Work}
use Rattle.program_defs.specs.declared.script.Work.TheVariants.{Change}
use Rattle.weave_entries.specs.declared.store_log.StoreEntry.{StoreEntry}
use Rattle.weave_entries.specs.declared.store_log.StoreDeed.{StoreDeed}
use Rattle.weave_entries.specs.declared.store_log.StoreDeed.TheVariants.{Judged}
use Rattle.weave_entries.specs.declared.verdict.Verdict.{Verdict}
use Rattle.weave_entries.specs.declared.verdict.Verdict.TheVariants.{Committed, Conflict, Refused}
use Rattle.weave_entries.specs.GateReplay.{BegunRequest}
use Rattle.weave_entries.specs.Logs.{AtEachEntry}
use Rattle.weave_entries.specs.StoreReplay.{Commit, Judgement, judged_by, commit_by, commits_of, graph_with_commit, graph_committed}
use Rattle.weave_data.proofs.Ends.{by_last}
use Rattle.weave_data.proofs.Entries.{each_before, each_last}
use Rattle.report_rules.specs.Replay.{graph_after, graph_after_work}
use Rattle.report_rules.specs.Lookups.{request_at, work_names, is_some_and}
use Rattle.weave_account.specs.declared.account.Account.{Account}
use Rattle.weave_account.specs.Account.{all_begun, stamp_of}
use Rattle.weave_account.specs.Store.{AreJudgements, IsRightVerdict, Judges}
use Rattle.weave_account.proofs.Replaying.{graph_after_all, PassesWork, Passes, AllPass, all-pass-append, after-append}
use Rattle.weave_account.proofs.Beginning.{tx-stamp}
use Rattle.weave_data.proofs.Images.{flat-has}

-- the request numbers of commits, in their order
abbrev pub requests_of_commits : List Commit → List ℕ
requests_of_commits commits = map (λ (commit : Commit). commit.request) commits

-- a commit is a transaction of the script, begun with its stamp
pub record IsOfScript (script : Script) (account : Account) (commit : Commit) : Type 0 where
  pub work : IsSomeAnd (request_at script commit.request) (λ (request : Request). request.work ≡ Change commit.ops)
  pub stamp : stamp_of account commit.request ≡ Some commit.stamp

-- What an entry's commit is

-- the verdict is to commit
abbrev pub IsVerdictOf : Verdict → Type 0
IsVerdictOf (Committed number answers counts) = ⊤
IsVerdictOf (Conflict v newer) = ⊥
IsVerdictOf (Refused op reason at) = ⊥

-- the commit is that of the judgement
pub record IsCommitOf (judged : Judgement) (commit : Commit) : Type 0 where
  pub verdict : IsVerdictOf judged.verdict
  pub request : judged.request ≡ commit.request
  pub stamp : judged.stamp ≡ commit.stamp
  pub ops : judged.ops ≡ commit.ops

-- the commit of an entry is that of its judgement
pub commit-of : (author : ℕ) (deed : StoreDeed) (commit : Commit) → Contains (commit_by deed) commit
    → IsCommitOf (judged_by author deed) commit
commit-of author (Judged r stamp ops asked (Committed number answers counts)) commit h =
    let same = only (record { request = r; stamp = stamp; ops = ops }) commit h in
    record { verdict = tt; request = ap (λ (c : Commit). c.request) same; stamp = ap (λ (c : Commit). c.stamp) same; ops = ap (λ (c : Commit). c.ops) same }
commit-of author (Judged r stamp ops asked (Conflict v newer)) commit h = absurd (has_none commit h)
commit-of author (Judged r stamp ops asked (Refused op reason at)) commit h = absurd (has_none commit h)

-- with one more entry its commit comes last
pub commits-push : (log : List StoreEntry) (entry : StoreEntry)
    → commits_of (log ++ entry ∷ []) ≡ commits_of log ++ commit_by entry.deed
commits-push log entry =
    flat_map-append (λ (e : StoreEntry). commit_by e.deed) log (entry ∷ []) ∙ ap (λ rest. commits_of log ++ rest) (append-nil (commit_by entry.deed))

-- a request that is this transaction
work-graph : (work : Work) (ops : List Op) (graph : PlainGraph) → work ≡ Change ops
    → graph_after_work graph work ≡ graph_left graph (transaction ops graph)
work-graph work ops graph is = ap (graph_after_work graph) is

-- the graph after a request is the one that its transaction leaves
pub request-graph : (q : Option Request) (ops : List Op) (graph : PlainGraph)
    → IsSomeAnd q (λ (request : Request). request.work ≡ Change ops)
    → graph_after graph q ≡ graph_left graph (transaction ops graph)
request-graph None ops graph is = absurd is
request-graph (Some request) ops graph is = work-graph request.work ops graph is

-- a request passes if its transaction does
pub work-passes : (q : Option Request) (ops : List Op) (graph : PlainGraph)
    → IsSomeAnd q (λ (request : Request). request.work ≡ Change ops) → PassesWork graph (Change ops) → Passes graph q
work-passes None ops graph is passes = absurd is
work-passes (Some request) ops graph is passes = subst (PassesWork graph) (sym is) passes

-- a request names what its transaction names
pub work-named : (q : Option Request) (ops : List Op) (v : Name) → IsSomeAnd q (λ (request : Request). request.work ≡ Change ops)
    → is_some_and (λ (request : Request). work_names v request.work) q ≡ is_among (named_by ops) v
work-named None ops v is = absurd is
work-named (Some request) ops v is = ap (work_names v) is

-- what the clause on the store says at each entry
abbrev pub JudgesRightly : Script → Account → List StoreEntry → StoreEntry → Type 0
JudgesRightly script account before entry = Judges script account before (judged_by entry.author entry.deed)

module _ (script : Script) (account : Account) (once : AllPairs (λ (a b : BegunRequest). a.request ≢ b.request) (all_begun account)) where
  -- Each is of the script

  -- each commit is of a begun request of the script
  pub of-script : (log : List StoreEntry)
      → AreJudgements script account log
      → (commit : Commit) → Contains (commits_of log) commit → IsOfScript script account commit
  of-script log each commit h =
      let from = flat-has (λ (e : StoreEntry). commit_by e.deed) log commit h in
      let place = cut_at log from.0 from.1.0 in
      let rule = each place.before from.0 place.after place.is in
      let is = commit-of (from.0).author (from.0).deed commit from.1.1 in
      record {
        work = subst (λ ops. IsSomeAnd (request_at script commit.request) (λ (request : Request). request.work ≡ Change ops)) is.ops
            (subst (λ r. IsSomeAnd (request_at script r) (λ (request : Request). request.work ≡ Change (judged_by (from.0).author (from.0).deed).ops)) is.request rule.work);
        stamp = subst (λ r. stamp_of account r ≡ Some commit.stamp) is.request
            (tx-stamp account once rule.home _ _ _ rule.begun ∙ ap Some is.stamp);
      }

  -- They replay

  -- the graph of the commits is that of their requests, which pass
  pub record Replays (commits : List Commit) : Type 0 where
    pub passes : AllPass empty_graph script (requests_of_commits commits)
    pub graph : graph_after_all empty_graph script (requests_of_commits commits) ≡ graph_committed commits

  replays-more : (commits : List Commit) (r : ℕ) (stamp : Stamp) (ops : List Op)
      → IsSomeAnd (request_at script r) (λ (request : Request). request.work ≡ Change ops)
      → PassesWork (graph_committed commits) (Change ops) → Replays commits
      → Replays (commits ++ record { request = r; stamp = stamp; ops = ops } ∷ [])
  replays-more commits r stamp ops work passes so-far =
      let commit : Commit = record { request = r; stamp = stamp; ops = ops } in
      let all = map-append (λ (c : Commit). c.request) commits (commit ∷ []) in
      let here : Passes (graph_after_all empty_graph script (requests_of_commits commits)) (request_at script r) =
      subst (λ (graph : PlainGraph). Passes graph (request_at script r)) (sym so-far.graph)
      (work-passes (request_at script r) ops (graph_committed commits) work passes) in
      record {
        passes = subst (AllPass empty_graph script) (sym all) (all-pass-append script (requests_of_commits commits) (r ∷ []) empty_graph so-far.passes (here, tt));
        graph =
            ap (graph_after_all empty_graph script) all
            ∙ after-append script (requests_of_commits commits) (r ∷ []) empty_graph
            ∙ ap (λ (graph : PlainGraph). graph_after graph (request_at script r)) so-far.graph
            ∙ request-graph (request_at script r) ops (graph_committed commits) work
            ∙ sym (fold-append graph_with_commit empty_graph commits (commit ∷ []));
      }

  replays-deed : (before : List Commit) (author : ℕ) (deed : StoreDeed)
      → IsSomeAnd (request_at script (judged_by author deed).request) (λ (request : Request). request.work ≡ Change (judged_by author deed).ops)
      → IsRightVerdict account before (judged_by author deed).stamp (judged_by author deed).ops (judged_by author deed).verdict
      → Replays before → Replays (before ++ commit_by deed)
  replays-deed before author (Judged r stamp ops asked (Committed number answers counts)) work right so-far =
      replays-more before r stamp ops work (record { graph = right.graph; gots = answers }, right.passes) so-far
  replays-deed before author (Judged r stamp ops asked (Conflict v newer)) work right so-far =
      subst Replays (sym (append-nil before)) so-far
  replays-deed before author (Judged r stamp ops asked (Refused op reason at)) work right so-far =
      subst Replays (sym (append-nil before)) so-far

  -- the commits replay to the store's graph
  pub replays : (log : List StoreEntry)
      → AreJudgements script account log
      → Replays (commits_of log)
  replays =
      by_last (λ log. AtEachEntry (JudgesRightly script account) log → Replays (commits_of log))
      (λ each. record { passes = tt; graph = refl })
      (λ log entry more each.
      let rule = each_last (JudgesRightly script account) log entry each in
      subst Replays (sym (commits-push log entry)) (replays-deed (commits_of log) entry.author entry.deed rule.work rule.verdict (more (each_before (JudgesRightly script account) log (entry ∷ []) each))))
