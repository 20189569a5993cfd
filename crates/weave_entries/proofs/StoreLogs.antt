-- The replay of a store's log with one more entry, and what a verdict says.
-- Used by `the_store_replay_goes_on`, `verdicts_count_what_is_named`, `verdicts_say_what_was_judged` and 5 crates
-- above.
use Rattle.std.proofs.Common.{◌≡◌, ◌⊎◌, inl, inr, ℕ, ◌+◌, Bool, true, false, cond, List, [], ◌∷◌, ◌++◌, length, map, filter, Contains, IsTrue, Option, None, Some, Ok, Err, refl, sym, ap, ◌∙◌}
use Rattle.std.specs.List.{find}
use Rattle.std.proofs.lemmas.List.{length-append, map-append, reverse-append}
use Rattle.std.proofs.lemmas.List.Elements.{filter-append}
use Rattle.std.proofs.lemmas.List.Sums.{fold-append}
use Rattle.weave_data.proofs.Ends.{flat_push}
use Rattle.weave_data.proofs.Members.{find_has, filter_has}
use Rattle.weave_data.specs.declared.name.Name.{Name}
use Rattle.graph_ops.specs.declared.op.Op.{Op}
use Rattle.graph_ops.specs.declared.op.Reason.{Reason}
use Rattle.graph_ops.specs.declared.tx.Got.{Got}
use Rattle.graph_ops.specs.PlainGraph.{PlainGraph, TxOutcome, transaction}
use Rattle.vector_stamp.specs.declared.clock.Stamp.{Stamp}
use Rattle.vector_stamp.specs.Order.{stamp_before, unordered}
use Rattle.vector_stamp.specs.Precedence.{GivenPair, precedes}
use Rattle.weave_entries.specs.declared.store_log.StoreEntry.{StoreEntry}
use Rattle.weave_entries.specs.declared.store_log.StoreDeed.{StoreDeed}
use Rattle.weave_entries.specs.declared.store_log.StoreDeed.TheVariants.{Judged}
use Rattle.weave_entries.specs.declared.verdict.Counted.{Counted}
use Rattle.weave_entries.specs.declared.verdict.Verdict.TheVariants.{Committed, Conflict, Refused}
use Rattle.weave_entries.specs.StoreReplay.{Commit, judged_by, judgements_of, commit_by, commits_of, names_vertex, count_naming, last_naming, graph_committed, graph_with_commit}
use Rattle.weave_entries.specs.StoreRule.{LastCommit, lasts_of, asked_of, counts_of, conflict_or, verdict_by, verdict_on}

-- One deed

-- a deed commits nothing, or this one transaction
pub commit-cases : (deed : StoreDeed) → (commit_by deed ≡ []) ⊎ ((commit : Commit) × (commit_by deed ≡ commit ∷ []))
commit-cases (Judged request stamp ops asked (Committed number answers counts)) = inr (record { request = request; stamp = stamp; ops = ops }, refl)
commit-cases (Judged request stamp ops asked (Conflict v newer)) = inl refl
commit-cases (Judged request stamp ops asked (Refused op reason at)) = inl refl

-- a judgement is its author's
pub judged-author : (author : ℕ) (deed : StoreDeed) → (judged_by author deed).author ≡ author
judged-author author (Judged request stamp ops asked verdict) = refl

-- the vertices counted are those that were named
pub vertices-counted : (commits : List Commit) (names : List Name) → map (λ (counted : Counted). counted.vertex) (map (λ (v : Name). record { vertex = v; before = count_naming v commits }) names) ≡ names
vertices-counted commits [] = refl
vertices-counted commits (v ∷ names) = ap (λ (vs : List Name). v ∷ vs) (vertices-counted commits names)

-- One more entry, and one more commit

-- one more entry adds its judgement
pub judgements-push : (log : List StoreEntry) (entry : StoreEntry) → judgements_of (log ++ entry ∷ []) ≡ judgements_of log ++ judged_by entry.author entry.deed ∷ []
judgements-push log entry = map-append (λ (one : StoreEntry). judged_by one.author one.deed) log (entry ∷ [])

-- one more entry adds its commit, if it is one
pub commits-push : (log : List StoreEntry) (entry : StoreEntry) → commits_of (log ++ entry ∷ []) ≡ commits_of log ++ commit_by entry.deed
commits-push log entry = flat_push (λ (one : StoreEntry). commit_by one.deed) log entry

-- after one more commit the last one that names a vertex is this one, if it names it, and otherwise the one before
pub last-push : (v : Name) (commits : List Commit) (commit : Commit) → last_naming v (commits ++ commit ∷ []) ≡ cond (names_vertex v commit) (Some commit) (last_naming v commits)
last-push v commits commit = ap (find (names_vertex v)) (reverse-append commits (commit ∷ []))

one_or_none : (b : Bool) (commit : Commit) → length (cond b (commit ∷ []) []) ≡ cond b 1 0
one_or_none true commit = refl
one_or_none false commit = refl

-- one more commit raises the count of those that name a vertex by one if it names it, and otherwise by none
pub count-push : (v : Name) (commits : List Commit) (commit : Commit) → count_naming v (commits ++ commit ∷ []) ≡ count_naming v commits + cond (names_vertex v commit) 1 0
count-push v commits commit =
    ap length (filter-append (names_vertex v) commits (commit ∷ []))
    ∙ length-append (filter (names_vertex v) commits) (filter (names_vertex v) (commit ∷ []))
    ∙ ap (λ n. count_naming v commits + n) (one_or_none (names_vertex v commit) commit)

-- after one more commit the graph is the one before with that commit replayed on it
pub graph-push : (commits : List Commit) (commit : Commit) → graph_committed (commits ++ commit ∷ []) ≡ graph_with_commit (graph_committed commits) commit
graph-push commits commit = fold-append _ _ commits (commit ∷ [])

-- What a verdict says

-- a commit is the verdict of operations that pass
commits_if : (ops : List Op) (commits : List Commit) (first second : Option LastCommit) (outcome : TxOutcome) (number : ℕ) (answers : List Got) (counts : List Counted) → conflict_or first (conflict_or second (verdict_by ops commits outcome)) ≡ Committed number answers counts → (number ≡ length commits + 1) × (counts ≡ counts_of ops commits)
commits_if ops commits (Some last) second outcome number answers counts is = absurd cc
commits_if ops commits None (Some last) outcome number answers counts is = absurd cc
commits_if ops commits None None (Ok passed) number answers counts is = let a : length commits + 1 ≡ number = cc in let b : counts_of ops commits ≡ counts = cc in (sym a, sym b)
commits_if ops commits None None (Err stopped) number answers counts is = absurd cc

-- a commit has the next number after the commits before it, and counts how many of these name each of its vertices
pub commits-if : (pairs : List GivenPair) (commits : List Commit) (stamp : Stamp) (ops : List Op) (number : ℕ) (answers : List Got) (counts : List Counted) → verdict_on pairs commits stamp ops ≡ Committed number answers counts → (number ≡ length commits + 1) × (counts ≡ counts_of ops commits)
commits-if pairs commits stamp ops number answers counts is =
    commits_if ops commits
    (find (λ (last : LastCommit). stamp_before stamp last.commit.stamp) (lasts_of ops commits))
    (find (λ (last : LastCommit). precedes pairs stamp last.commit.stamp) (asked_of stamp (lasts_of ops commits)))
    (transaction ops (graph_committed commits)) number answers counts is

-- of operations that pass with these answers
abbrev passed_with : PlainGraph → List Got → TxOutcome
passed_with graph gots = Ok (record { graph = graph; gots = gots })

passes_if : (ops : List Op) (commits : List Commit) (first second : Option LastCommit) (outcome : TxOutcome) (number : ℕ) (answers : List Got) (counts : List Counted)
    → conflict_or first (conflict_or second (verdict_by ops commits outcome)) ≡ Committed number answers counts → (graph : PlainGraph) × (outcome ≡ Ok (record { graph = graph; gots = answers }))
passes_if ops commits (Some last) second outcome number answers counts is = absurd cc
passes_if ops commits None (Some last) outcome number answers counts is = absurd cc
passes_if ops commits None None (Ok passed) number answers counts is = let a : passed.gots ≡ answers = cc in (passed.graph, ap (passed_with passed.graph) a)
passes_if ops commits None None (Err stopped) number answers counts is = absurd cc

-- if the verdict is a commit, the operations pass on the graph of the commits before, with the verdict's answers
pub passes-if : (pairs : List GivenPair) (commits : List Commit) (stamp : Stamp) (ops : List Op) (number : ℕ) (answers : List Got) (counts : List Counted)
    → verdict_on pairs commits stamp ops ≡ Committed number answers counts → (graph : PlainGraph) × (transaction ops (graph_committed commits) ≡ Ok (record { graph = graph; gots = answers }))
passes-if pairs commits stamp ops number answers counts is =
    passes_if ops commits
    (find (λ (last : LastCommit). stamp_before stamp last.commit.stamp) (lasts_of ops commits))
    (find (λ (last : LastCommit). precedes pairs stamp last.commit.stamp) (asked_of stamp (lasts_of ops commits)))
    (transaction ops (graph_committed commits)) number answers counts is

-- a refusal is the verdict of operations that are refused
refused_if : (ops : List Op) (commits : List Commit) (first second : Option LastCommit) (outcome : TxOutcome) (op : ℕ) (reason : Reason) (at : ℕ)
    → conflict_or first (conflict_or second (verdict_by ops commits outcome)) ≡ Refused op reason at → (at ≡ length commits) × (outcome ≡ Err (record { op = op; reason = reason }))
refused_if ops commits (Some last) second outcome op reason at is = absurd cc
refused_if ops commits None (Some last) outcome op reason at is = absurd cc
refused_if ops commits None None (Ok passed) op reason at is = absurd cc
refused_if ops commits None None (Err stopped) op reason at is =
    let a : stopped.op ≡ op = cc in
    let b : stopped.reason ≡ reason = cc in
    let n : length commits ≡ at = cc in
    (sym n, λ i. Err (record { op = a i; reason = b i }))

-- a refusal counts the commits before it, and gives the operation that their graph refuses, with the reason
pub refused-if : (pairs : List GivenPair) (commits : List Commit) (stamp : Stamp) (ops : List Op) (op : ℕ) (reason : Reason) (at : ℕ)
    → verdict_on pairs commits stamp ops ≡ Refused op reason at → (at ≡ length commits) × (transaction ops (graph_committed commits) ≡ Err (record { op = op; reason = reason }))
refused-if pairs commits stamp ops op reason at is =
    refused_if ops commits
    (find (λ (last : LastCommit). stamp_before stamp last.commit.stamp) (lasts_of ops commits))
    (find (λ (last : LastCommit). precedes pairs stamp last.commit.stamp) (asked_of stamp (lasts_of ops commits)))
    (transaction ops (graph_committed commits)) op reason at is

-- a conflict is with one of the last commits that are looked at
newer_if : (P : LastCommit → Type 0) (ops : List Op) (commits : List Commit) (first second : Option LastCommit) (outcome : TxOutcome) → ((last : LastCommit) → first ≡ Some last → P last) → ((last : LastCommit) → second ≡ Some last → P last) → (vertex : Name) (newer : ℕ) → conflict_or first (conflict_or second (verdict_by ops commits outcome)) ≡ Conflict vertex newer → (last : LastCommit) × (last.vertex ≡ vertex) × (last.commit.request ≡ newer) × P last
newer_if P ops commits (Some last) second outcome of_first of_second vertex newer is = let a : last.vertex ≡ vertex = cc in let b : last.commit.request ≡ newer = cc in (last, a, b, of_first last refl)
newer_if P ops commits None (Some last) outcome of_first of_second vertex newer is = let a : last.vertex ≡ vertex = cc in let b : last.commit.request ≡ newer = cc in (last, a, b, of_second last refl)
newer_if P ops commits None None (Ok passed) of_first of_second vertex newer is = absurd cc
newer_if P ops commits None None (Err stopped) of_first of_second vertex newer is = absurd cc

-- which the new transaction precedes
pub conflict-if : (pairs : List GivenPair) (commits : List Commit) (stamp : Stamp) (ops : List Op) → ((a b : Stamp) → IsTrue (stamp_before a b) → IsTrue (precedes pairs a b)) → (vertex : Name) (newer : ℕ) → verdict_on pairs commits stamp ops ≡ Conflict vertex newer → (last : LastCommit) × (last.vertex ≡ vertex) × (last.commit.request ≡ newer) × Contains (lasts_of ops commits) last × IsTrue (precedes pairs stamp last.commit.stamp)
conflict-if pairs commits stamp ops ordered vertex newer is =
    let found = newer_if (λ (last : LastCommit). Contains (lasts_of ops commits) last × IsTrue (precedes pairs stamp last.commit.stamp)) ops commits
    (find (λ (last : LastCommit). stamp_before stamp last.commit.stamp) (lasts_of ops commits))
    (find (λ (last : LastCommit). precedes pairs stamp last.commit.stamp) (asked_of stamp (lasts_of ops commits)))
    (transaction ops (graph_committed commits))
    (λ last found. let has = find_has (λ (one : LastCommit). stamp_before stamp one.commit.stamp) (lasts_of ops commits) last found in (has.0, ordered stamp last.commit.stamp has.1))
    (λ last found. let has = find_has (λ (one : LastCommit). precedes pairs stamp one.commit.stamp) (asked_of stamp (lasts_of ops commits)) last found in ((filter_has (λ (one : LastCommit). unordered one.commit.stamp stamp) (lasts_of ops commits) last has.0).0, has.1))
    vertex newer is in
    (found.0, found.1, found.2, found.3.0, found.3.1)
