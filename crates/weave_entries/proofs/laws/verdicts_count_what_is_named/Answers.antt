use Rattle.std.proofs.Common.{List, find, Option, None, Some, Ok, Err}
use Rattle.graph_ops.specs.declared.op.Op.{Op}
use Rattle.graph_ops.specs.Mentions.{named_by}
use Rattle.graph_ops.specs.PlainGraph.{TxOutcome, transaction}
use Rattle.vector_stamp.specs.Order.{stamp_before}
use Rattle.vector_stamp.specs.Precedence.{precedes}
use Rattle.weave_entries.specs.declared.verdict.Verdict.{Verdict}
use Rattle.weave_entries.specs.Sending.{IsCountsOf}
use Rattle.weave_entries.specs.StoreReplay.{Commit, graph_committed}
use Rattle.weave_entries.specs.StoreRule.{LastCommit, lasts_of, asked_of, conflict_or, verdict_by}
use Rattle.weave_entries.proofs.laws.verdicts_count_what_is_named.Goals as goal
use Rattle.weave_entries.proofs.StoreLogs.{vertices-counted}

by_outcome : (ops : List Op) (commits : List Commit) (outcome : TxOutcome) → IsCountsOf ops (verdict_by ops commits outcome)
by_outcome ops commits (Ok passed) = vertices-counted commits (named_by ops)
by_outcome ops commits (Err stopped) = tt

or_conflict : (ops : List Op) (last : Option LastCommit) (rest : Verdict) → IsCountsOf ops rest → IsCountsOf ops (conflict_or last rest)
or_conflict ops None rest h = h
or_conflict ops (Some last) rest h = tt

pub returns : goal.returns
returns c = λ pairs commits stamp ops.
    let outcome = transaction ops (graph_committed commits) in
    let lasts = lasts_of ops commits in
    let refused = find (λ (last : LastCommit). precedes pairs stamp last.commit.stamp) (asked_of stamp lasts) in
    or_conflict ops (find (λ (last : LastCommit). stamp_before stamp last.commit.stamp) lasts) (conflict_or refused (verdict_by ops commits outcome))
    (or_conflict ops refused (verdict_by ops commits outcome) (by_outcome ops commits outcome))
