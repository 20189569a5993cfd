-- What is decided of a transaction before it is noted. For proofs: no public contract cites it.
use Rattle.std.specs.Prelude.{◌≡◌, ℕ, ◌+◌, List, [], Option, Some, None, Ok, Err, slice_index_or, slice_index, length}
use Rattle.weave_data.specs.declared.name.Name.{Name}
use Rattle.graph_ops.specs.declared.op.Op.{Op}
use Rattle.graph_ops.specs.PlainGraph.{PlainGraph, TxOutcome, transaction, graph_left}
use Rattle.graph_ops.specs.Graphs.{plain_of}
use Rattle.vector_stamp.specs.declared.clock.Stamp.{Stamp}
use Rattle.weave_entries.specs.declared.verdict.Counted.{Counted}
use Rattle.weave_entries.specs.declared.verdict.Verdict.{Verdict}
use Rattle.weave_entries.specs.declared.verdict.Verdict.TheVariants.{Committed, Conflict, Refused}
use Rattle.weave_entries.specs.StoreReplay.{Commit, graph_committed}
use Rattle.backing_store.specs.declared.asked.Asked.{Asked}
use Rattle.graph_ops.specs.Pendings.{BothVertices}
use Rattle.graph_ops.specs.Mentions.{named_by}
use Rattle.backing_store.specs.declared.lasts.KeptCommit.{KeptCommit}
use Rattle.backing_store.specs.Keeping.{held_of, unordered_of, IsAsked, KeepsLasts}

-- the verdict that the operations alone give, after this many commits and with these counts
abbrev pub verdict_of_ops : ℕ → List Counted → TxOutcome → Verdict
verdict_of_ops made counts (Ok passed) = Committed (made + 1) passed.gots counts
verdict_of_ops made counts (Err stopped) = Refused stopped.op stopped.reason made

-- the operations had this outcome on the old graph. If they passed, the graph before and after them is pending; if not,
-- the graph is as it was
abbrev pub IsTrial : TxOutcome → PlainGraph → PlainGraph → Option BothVertices → Type 0
IsTrial (Ok passed) old now (Some pending) = (plain_of pending.after ≡ passed.graph) × (plain_of pending.before ≡ old)
IsTrial (Ok passed) old now None = ⊥
IsTrial (Err stopped) old now (Some pending) = ⊥
IsTrial (Err stopped) old now None = now ≡ old

-- a conflict at the place that the judge refused, by its vertex and newer request; or the verdict if it refused none
abbrev pub verdict_asked : Option ℕ → List Name → List ℕ → Verdict → Verdict
verdict_asked None vertices newer verdict = verdict
verdict_asked (Some place) vertices newer verdict =
    Conflict (slice_index_or vertices place []) (slice_index newer place)

-- the graph that an outcome leaves, unless the judge refused a place
abbrev pub graph_asked : Option ℕ → PlainGraph → TxOutcome → PlainGraph
graph_asked None old outcome = graph_left old outcome
graph_asked (Some place) old outcome = old

-- a commit leaves the graph that its operations leave, and any other verdict the graph before
abbrev pub graph_after_verdict : Verdict → PlainGraph → List Op → PlainGraph
graph_after_verdict (Committed number answers counts) graph ops = graph_left graph (transaction ops graph)
graph_after_verdict (Conflict vertex newer) graph ops = graph
graph_after_verdict (Refused op reason at) graph ops = graph

-- what the store has before it judges a transaction is of these commits: the graph, the last commits, their number, the
-- vertices that the transaction names, and what the judge is asked
pub record IsBefore (graph : PlainGraph) (lasts : List (Name
    × KeptCommit)) (made : ℕ) (names : List Name) (asked : Asked) (stamp : Stamp) (ops : List Op)
    (commits : List Commit) : Type 0 where
  pub graph_is : graph ≡ graph_committed commits
  pub lasts_are : KeepsLasts lasts commits
  pub made_is : made ≡ length commits
  pub names_are : names ≡ named_by ops
  pub asked_is : IsAsked asked (unordered_of stamp (held_of lasts names))

-- the counts of a commit
abbrev pub counts_in : Verdict → List Counted
counts_in (Committed number answers counts) = counts
counts_in (Conflict vertex newer) = []
counts_in (Refused op reason at) = []

-- the number of commits that a verdict makes
abbrev pub commits_by : Verdict → ℕ
commits_by (Committed number answers counts) = 1
commits_by (Conflict vertex newer) = 0
commits_by (Refused op reason at) = 0
