-- The store's rule gives a right verdict.
-- Used by Committing.
use Rattle.std.proofs.Common.{◌≡◌, List, ◌++◌, Contains, Some, sym, ◌∙◌, subst, append-nil}
use Rattle.weave_data.specs.declared.name.Name.{Name}
use Rattle.graph_ops.specs.Mentions.{named_by}
use Rattle.graph_ops.specs.declared.op.Op.{Op}
use Rattle.vector_stamp.specs.declared.clock.Stamp.{Stamp}
use Rattle.vector_stamp.specs.Precedence.{GivenPair, Precedes}
use Rattle.weave_entries.specs.declared.store_log.StoreEntry.{StoreEntry}
use Rattle.weave_entries.specs.declared.verdict.Verdict.{Verdict}
use Rattle.weave_entries.specs.declared.verdict.Verdict.TheVariants.{Committed, Conflict, Refused}
use Rattle.weave_entries.specs.StoreReplay.{commits_of, last_naming}
use Rattle.weave_entries.proofs.LastCommits.{last-at, last-is, last-there}
use Rattle.backing_store.specs.Commits.{asked_at, pairs_added, verdict_at}
use Rattle.weave_account.specs.declared.account.Account.{Account}
use Rattle.weave_account.specs.Account.{pairs_in}
use Rattle.weave_account.specs.Store.{IsRightVerdict}
use Rattle.store_lock.specs.VerdictLaws.{VerdictLaws}

module _ (laws : VerdictLaws) (seen : Account) (pairs : List GivenPair) (log : List StoreEntry) (stamp : Stamp) (ops : List Op) where
  -- what the rule answers is right, if what is seen has the pairs of the judge and those that the verdict leaves
  pub right-verdict : (verdict : Verdict) → verdict ≡ verdict_at pairs log stamp ops
      → pairs_in seen ≡ pairs ++ pairs_added verdict pairs (asked_at log stamp ops) stamp → IsRightVerdict seen (commits_of log) stamp ops verdict
  right-verdict (Committed number answers counts) is have =
      let commits = commits_of log in
      let passed = laws.passes pairs commits stamp ops number answers counts (sym is) in
      record {
        number_is = laws.number pairs commits stamp ops number answers counts (sym is);
        graph = passed.0;
        passes = passed.1;
        counts_are = laws.counts pairs commits stamp ops number answers counts (sym is);
        after_last = λ v named last at. subst (λ (ps : List GivenPair). Precedes ps last.stamp stamp) (sym have)
            ((laws.tested (pairs ++ pairs_added (Committed number answers counts) pairs (asked_at log stamp ops) stamp) last.stamp stamp).1
            (laws.after pairs log stamp ops number answers counts (sym is) (last-at v last)
            (last-there ops commits v last ((laws.among (named_by ops) v).0 named) at)));
      }
  right-verdict (Conflict vertex newer) is have =
      let commits = commits_of log in
      let found = laws.conflict pairs commits stamp ops vertex newer (sym is) in
      let last = found.0 in
      let there = last-is ops commits last found.3 in
      record {
        named = (laws.among (named_by ops) vertex).1 (subst (λ (v : Name). Contains (named_by ops) v) found.1 there.1);
        last = last.commit;
        last_is = subst (λ (v : Name). last_naming v commits ≡ Some last.commit) found.1 there.0;
        newer_is = found.2;
        precedes = subst (λ (ps : List GivenPair). Precedes ps stamp last.commit.stamp) (sym (have ∙ append-nil pairs))
            ((laws.tested pairs stamp last.commit.stamp).1 found.4);
      }
  right-verdict (Refused op reason at) is have =
      let stopped = laws.refused pairs (commits_of log) stamp ops op reason at (sym is) in
      record { at_is = stopped.0; refused = stopped.1 }
