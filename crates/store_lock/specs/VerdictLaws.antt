-- The laws of the crates below that a right verdict relies on, in one record. No public contract cites this.
use Rattle.std.specs.Prelude.{◌≡◌, ◌↔◌, ℕ, ◌+◌, List, ◌++◌, length, Contains, IsTrue, Ok, Err}
use Rattle.weave_data.specs.declared.name.Name.{Name}
use Rattle.graph_ops.specs.Mentions.{is_among}
use Rattle.graph_ops.specs.PlainGraph.{PlainGraph, transaction}
use Rattle.graph_ops.specs.declared.op.Op.{Op}
use Rattle.graph_ops.specs.declared.op.Reason.{Reason}
use Rattle.graph_ops.specs.declared.tx.Got.{Got}
use Rattle.vector_stamp.specs.declared.clock.Stamp.{Stamp}
use Rattle.vector_stamp.specs.Precedence.{GivenPair, Precedes, precedes}
use Rattle.weave_entries.specs.declared.store_log.StoreEntry.{StoreEntry}
use Rattle.weave_entries.specs.declared.verdict.Counted.{Counted}
use Rattle.weave_entries.specs.declared.verdict.Verdict.TheVariants.{Committed, Conflict, Refused}
use Rattle.weave_entries.specs.StoreReplay.{Commit, graph_committed}
use Rattle.weave_entries.specs.StoreRule.{LastCommit, counts_of, lasts_of, verdict_on}
use Rattle.backing_store.specs.Commits.{asked_at, lasts_at, pairs_added, verdict_at}

-- precedence and naming are decided, and each verdict says what was judged
pub record VerdictLaws : Type 0 where
  pub tested : (pairs : List GivenPair) (a b : Stamp) → Precedes pairs a b ↔ IsTrue (precedes pairs a b)
  pub among : (names : List Name) (v : Name) → IsTrue (is_among names v) ↔ Contains names v
  pub number : (pairs : List GivenPair) (commits : List Commit) (stamp : Stamp) (ops : List Op) (number : ℕ)
      (answers : List Got)
      (counts : List Counted) → verdict_on pairs commits stamp ops ≡ Committed number answers counts
      → number ≡ length commits + 1
  pub counts : (pairs : List GivenPair) (commits : List Commit) (stamp : Stamp) (ops : List Op) (number : ℕ)
      (answers : List Got)
      (counts : List Counted) → verdict_on pairs commits stamp ops ≡ Committed number answers counts
      → counts ≡ counts_of ops commits
  pub conflict : (pairs : List GivenPair) (commits : List Commit) (stamp : Stamp) (ops : List Op) (vertex : Name)
      (newer : ℕ)
      → verdict_on pairs commits stamp ops ≡ Conflict vertex newer
      → (last : LastCommit) × (last.vertex ≡ vertex) × (last.commit.request ≡ newer)
      × Contains (lasts_of ops commits) last × IsTrue (precedes pairs stamp last.commit.stamp)
  pub passes : (pairs : List GivenPair) (commits : List Commit) (stamp : Stamp) (ops : List Op) (number : ℕ)
      (answers : List Got)
      (counts : List Counted) → verdict_on pairs commits stamp ops ≡ Committed number answers counts
      → (graph : PlainGraph) × (transaction ops (graph_committed commits)
      ≡ Ok (record { graph = graph; gots = answers }))
  pub refused : (pairs : List GivenPair) (commits : List Commit) (stamp : Stamp) (ops : List Op) (op : ℕ)
      (reason : Reason)
      (at : ℕ)
      → verdict_on pairs commits stamp ops ≡ Refused op reason at
      → (at ≡ length commits) × (transaction ops (graph_committed commits) ≡ Err (record { op = op; reason = reason }))
  pub after : (pairs : List GivenPair) (log : List StoreEntry) (stamp : Stamp) (ops : List Op) (number : ℕ)
      (answers : List Got)
      (counts : List Counted) → verdict_at pairs log stamp ops ≡ Committed number answers counts
      → (last : LastCommit) → Contains (lasts_at log ops) last → IsTrue (precedes
      (pairs ++ pairs_added (Committed number answers counts) pairs (asked_at log stamp ops) stamp) last.commit.stamp
      stamp)
