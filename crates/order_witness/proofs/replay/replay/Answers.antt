use Rattle.std.proofs.Common.{List, Option, Some, sym, subst}
use Rattle.std.specs.Prelude.{IfOk, OnOk}
use Rattle.graph_ops.specs.Graphs.{plain_of}
use Rattle.program_defs.specs.declared.script.Request.{Request}
use Rattle.report_rules.specs.declared.report.Pair.{Pair}
use Rattle.report_rules.specs.declared.report.Reply.{Reply}
use Rattle.report_rules.specs.Replay.{MatchesReply, graph_after}
use Rattle.report_rules.specs.Lookups.{AreBoth, reply_at}
use Rattle.order_witness.specs.Replay.{TellsOf}
use Rattle.order_witness.specs.Visited.{AreMarkedAt, AreMarkedBy}
use Rattle.order_witness.proofs.Testing.{is_numbered}
use Rattle.order_witness.proofs.replay.replay.Goals as goal

pub replay_work-requires : goal.replay_work-requires
replay_work-requires c = record { numbered = is_numbered c.args.script.now c.requires.numbered c.args.request c.in-Some-request_at.request.now (sym c.in-Some-request_at.ensures) }

pub returns-in-Some-request_at-clause-replayed : goal.returns-in-Some-request_at-clause-replayed
returns-in-Some-request_at-clause-replayed c =
    subst (λ (o : Option Request). IfOk c.replay_work.result (TellsOf (AreBoth (λ (request : Request) (reply : Reply). MatchesReply (plain_of c.args.graph.now) request.work reply.state) o (reply_at c.args.report.now c.args.request)) (plain_of c.replay_work.new.graph) (graph_after (plain_of c.args.graph.now) o))) c.in-Some-request_at.ensures
    (subst (λ (p : Option Reply). IfOk c.replay_work.result (TellsOf (AreBoth (λ (request : Request) (reply : Reply). MatchesReply (plain_of c.args.graph.now) request.work reply.state) (Some c.in-Some-request_at.request.now) p) (plain_of c.replay_work.new.graph) (graph_after (plain_of c.args.graph.now) (Some c.in-Some-request_at.request.now)))) c.in-Some.ensures
    c.replay_work.ensures.replayed)

pub returns-in-Some-request_at-clause-marked : goal.returns-in-Some-request_at-clause-marked
returns-in-Some-request_at-clause-marked c =
    let graph = plain_of c.args.graph.now in
    let marks = c.replay_work.new.marks.items in
    subst (λ (o : Option Request). OnOk c.replay_work.result (AreMarkedAt c.args.report.now.pairs graph o (reply_at c.args.report.now c.args.request) c.args.places.now marks)) c.in-Some-request_at.ensures
    (subst (λ (p : Option Reply). OnOk c.replay_work.result (AreMarkedAt c.args.report.now.pairs graph (Some c.in-Some-request_at.request.now) p c.args.places.now marks)) c.in-Some.ensures
    (subst (λ (pairs : List Pair). OnOk c.replay_work.result (AreMarkedBy pairs graph c.in-Some-request_at.request.now.work c.in-Some.reply.now.state c.args.places.now marks)) c.as_slice-pairs.ensures
    c.replay_work.ensures.marked))
