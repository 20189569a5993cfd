-- A commit comes after the last commit at each vertex that it names.
-- Used by `commits_come_after_the_last`.
use Rattle.std.proofs.Common.{◌≡◌, ℕ, Bool, true, false, not, ◌&&◌, List, ◌++◌, Contains, IsTrue, Option, None, Some, inl, inr, refl}
use Rattle.std.specs.List.{find}
use Rattle.std.proofs.lemmas.Bool.{cases_Bool}
use Rattle.weave_data.proofs.Members.{has_map, has_filter, find_lacks}
use Rattle.vector_stamp.specs.declared.clock.Stamp.{Stamp}
use Rattle.vector_stamp.specs.Order.{stamp_before, unordered}
use Rattle.vector_stamp.specs.Precedence.{GivenPair, precedes}
use Rattle.vector_stamp.specs.Settling.{additions_from, pairs_of}
use Rattle.graph_ops.specs.declared.op.Op.{Op}
use Rattle.graph_ops.specs.declared.tx.Got.{Got}
use Rattle.graph_ops.specs.PlainGraph.{TxOutcome, transaction}
use Rattle.weave_entries.specs.declared.verdict.Counted.{Counted}
use Rattle.weave_entries.specs.declared.verdict.Verdict.TheVariants.{Committed}
use Rattle.weave_entries.specs.StoreReplay.{Commit, graph_committed}
use Rattle.weave_entries.specs.StoreRule.{LastCommit, lasts_of, asked_of, asked_stamps, conflict_or, verdict_by, verdict_on}

-- a commit has no newer last commit
first_none : (ops : List Op) (commits : List Commit) (first second : Option LastCommit) (outcome : TxOutcome) (number : ℕ) (answers : List Got) (counts : List Counted) → conflict_or first (conflict_or second (verdict_by ops commits outcome)) ≡ Committed number answers counts → first ≡ None
first_none ops commits (Some last) second outcome number answers counts is = absurd cc
first_none ops commits None second outcome number answers counts is = refl

-- what is before on neither side is unordered
apart : (before after : Bool) → before ≡ false → (after ≡ true → ⊥) → (not before && not after) ≡ true
apart true after first second = absurd cc
apart false true first second = absurd (second refl)
apart false false first second = refl

module _ (settles : (pairs : List GivenPair) (earlier : List Stamp) (later event : Stamp) → Contains earlier event → IsTrue (precedes (pairs ++ pairs_of (additions_from 0 pairs earlier later) later) event later)) (ordered : (pairs : List GivenPair) (a b : Stamp) → IsTrue (stamp_before a b) → IsTrue (precedes pairs a b)) where
  after_last : (pairs : List GivenPair) (commits : List Commit) (stamp : Stamp) (ops : List Op) (last : LastCommit) → Contains (lasts_of ops commits) last → (IsTrue (stamp_before stamp last.commit.stamp) → ⊥) → IsTrue (precedes (pairs ++ pairs_of (additions_from 0 pairs (asked_stamps stamp (lasts_of ops commits)) stamp) stamp) last.commit.stamp stamp)
  after_last pairs commits stamp ops last has newer = elim (cases_Bool (stamp_before last.commit.stamp stamp)) [
    | inl before ↦ ordered (pairs ++ pairs_of (additions_from 0 pairs (asked_stamps stamp (lasts_of ops commits)) stamp) stamp) last.commit.stamp stamp before
    | inr other ↦
        let apart_both : IsTrue (unordered last.commit.stamp stamp) = apart (stamp_before last.commit.stamp stamp) (stamp_before stamp last.commit.stamp) other newer in
        settles pairs (asked_stamps stamp (lasts_of ops commits)) stamp last.commit.stamp
        (has_map (λ (one : LastCommit). one.commit.stamp) (asked_of stamp (lasts_of ops commits)) last
        (has_filter (λ (one : LastCommit). unordered one.commit.stamp stamp) (lasts_of ops commits) last has apart_both))
  ]

  -- if the verdict is a commit, each last commit at a named vertex precedes it, by the pairs and those then added
  pub comes_after : (pairs : List GivenPair) (commits : List Commit) (stamp : Stamp) (ops : List Op) (number : ℕ) (answers : List Got) (counts : List Counted) → verdict_on pairs commits stamp ops ≡ Committed number answers counts → (last : LastCommit) → Contains (lasts_of ops commits) last → IsTrue (precedes (pairs ++ pairs_of (additions_from 0 pairs (asked_stamps stamp (lasts_of ops commits)) stamp) stamp) last.commit.stamp stamp)
  comes_after pairs commits stamp ops number answers counts is last has =
      let none : find (λ (one : LastCommit). stamp_before stamp one.commit.stamp) (lasts_of ops commits) ≡ None =
      first_none ops commits
      (find (λ (one : LastCommit). stamp_before stamp one.commit.stamp) (lasts_of ops commits))
      (find (λ (one : LastCommit). precedes pairs stamp one.commit.stamp) (asked_of stamp (lasts_of ops commits)))
      (transaction ops (graph_committed commits)) number answers counts is in
      after_last pairs commits stamp ops last has (find_lacks (λ (one : LastCommit). stamp_before stamp one.commit.stamp) (lasts_of ops commits) last none has)
