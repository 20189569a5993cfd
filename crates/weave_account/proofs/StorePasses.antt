-- What a store judged as a commit passed after the commits before it.
-- Used by `store_logs_have_passed`.
use Rattle.std.proofs.Common.{◌≡◌, ℕ, List, Ok, sym}
use Rattle.graph_ops.specs.PlainGraph.{PlainGraph, transaction}
use Rattle.graph_ops.specs.declared.op.Op.{Op}
use Rattle.graph_ops.specs.declared.tx.Got.{Got}
use Rattle.vector_stamp.specs.declared.clock.Stamp.{Stamp}
use Rattle.vector_stamp.specs.Precedence.{GivenPair}
use Rattle.weave_entries.specs.declared.store_log.StoreEntry.{StoreEntry}
use Rattle.weave_entries.specs.declared.store_log.StoreDeed.{StoreDeed}
use Rattle.weave_entries.specs.declared.store_log.StoreDeed.TheVariants.{Judged}
use Rattle.weave_entries.specs.declared.verdict.Counted.{Counted}
use Rattle.weave_entries.specs.declared.verdict.Verdict.{Verdict}
use Rattle.weave_entries.specs.declared.verdict.Verdict.TheVariants.{Committed, Conflict, Refused}
use Rattle.weave_entries.specs.StoreReplay.{Commit, judged_by, commits_of, graph_committed}
use Rattle.weave_entries.specs.StoreRule.{FitsStore, IsStoreLog, counts_of, verdict_on}
use Rattle.weave_account.specs.Seen.{HavePassed, PassesAs}

module _ (passes : (pairs : List GivenPair) (commits : List Commit) (stamp : Stamp) (ops : List Op) (number : ℕ) (answers : List Got) (counts : List Counted)
    → verdict_on pairs commits stamp ops ≡ Committed number answers counts → (graph : PlainGraph) × (transaction ops (graph_committed commits) ≡ Ok (record { graph = graph; gots = answers })))
    (counted : (pairs : List GivenPair) (commits : List Commit) (stamp : Stamp) (ops : List Op) (number : ℕ) (answers : List Got) (counts : List Counted)
    → verdict_on pairs commits stamp ops ≡ Committed number answers counts → counts ≡ counts_of ops commits) where
  passed-as : (pairs : List GivenPair) (commits : List Commit) (stamp : Stamp) (ops : List Op) (verdict : Verdict) → verdict ≡ verdict_on pairs commits stamp ops → PassesAs commits ops verdict
  passed-as pairs commits stamp ops (Committed number answers counts) is =
      let passed = passes pairs commits stamp ops number answers counts (sym is) in
      record { graph = passed.0; passes = passed.1; counts_are = counted pairs commits stamp ops number answers counts (sym is) }
  passed-as pairs commits stamp ops (Conflict v newer) is = tt
  passed-as pairs commits stamp ops (Refused op reason at) is = tt

  deed-passed : (before : List StoreEntry) (author : ℕ) (deed : StoreDeed) → FitsStore before deed → PassesAs (commits_of before) (judged_by author deed).ops (judged_by author deed).verdict
  deed-passed before author (Judged request stamp ops asked verdict) fits = passed-as fits.pairs (commits_of before) stamp ops verdict fits.verdict_is

  -- in a right log of the store each commit passed after those before it, with its answers and its counts
  pub have-passed : (store : List StoreEntry) → IsStoreLog store → HavePassed store
  have-passed store right = λ before entry after is. deed-passed before entry.author entry.deed (right before entry after is)
