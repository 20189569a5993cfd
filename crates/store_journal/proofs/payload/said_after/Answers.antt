use Rattle.std.proofs.Common.{rules, ◌≡◌, ◌≤◌, ◌==◌, [], length, drop, Some, sym, ◌∙◌, ap}
use Rattle.weave_text.specs.Cutting.{lines_of}
use Rattle.store_journal.specs.Payloads.{commit_with, if_written_so, ops_after, said_after}
use Rattle.store_journal.proofs.Rests.{rest_of}
use Rattle.store_journal.proofs.SaidCommits.{if_ok_same, said_at}
use Rattle.store_journal.proofs.payload.said_after.Goals as goal

pub returns : goal.returns
returns c =
    let long : 16 ≤ length c.args.rest.now = search rules in
    let read : ops_after (c.args.version == 2) [] (lines_of (drop 16 c.args.rest.now)) ≡ Some c.in-Some.ops = ap (λ l. ops_after (c.args.version == 2) [] (lines_of l)) (sym (rest_of c.args.rest.now 16)) ∙ sym c.in_ok-ops.ensures ∙ c.in-Some.is in
    if_ok_same c.if_written_so.result (if_written_so c.args.payload.now (commit_with c.stamp_of_bytes-stamp.result c.in-Some.ops))
    (said_after c.args.payload.now c.args.version c.args.rest.now)
    (sym (said_at c.args.payload.now c.args.version c.args.rest.now c.stamp_of_bytes-stamp.result c.in-Some.ops long read c.stamp_of_bytes-stamp.ensures))
    c.if_written_so.ensures
