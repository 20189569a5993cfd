use Rattle.std.proofs.Common.{sym, subst}
use Rattle.std.specs.Prelude.{MatchBool}
use Rattle.graph_ops.specs.Graphs.{plain_of}
use Rattle.program_defs.specs.declared.script.Work.TheVariants.{Look}
use Rattle.report_rules.specs.declared.report.ReplyState.{ReplyState}
use Rattle.report_rules.specs.Replay.{AnswerMatchesReply}
use Rattle.order_witness.specs.Visited.{AreMarkedBy}
use Rattle.order_witness.proofs.Visiting.{marked_by_visits}
use Rattle.order_witness.proofs.replay.replay_program.Goals as goal

pub returns-in_ok-judged-in-Finished-clause-answered : goal.returns-in_ok-judged-in-Finished-clause-answered
returns-in_ok-judged-in-Finished-clause-answered c =
    let graph = plain_of c.args.graph.now in
    let program = c.args.program.now in
    subst (λ (s : ReplyState). MatchBool c.in_ok-judged-in-Finished.judged.holds (AnswerMatchesReply graph program s) (¬ AnswerMatchesReply graph program s)) (sym c.in-Finished.is)
    c.in_ok-judged-in-Finished.ensures.holds

pub returns-in_ok-judged-in-Finished-clause-marked : goal.returns-in_ok-judged-in-Finished-clause-marked
returns-in_ok-judged-in-Finished-clause-marked c =
    let graph = plain_of c.args.graph.now in
    let program = c.args.program.now in
    subst (λ (s : ReplyState). AreMarkedBy c.args.pairs.now graph (Look program) s c.args.places.now c.mark_all.new.marks.items) (sym c.in-Finished.is)
    (marked_by_visits c.args.pairs.now graph program c.in-Finished.answer c.in_ok-judged-in-Finished.judged.visits c.in_ok-judged-in-Finished.ensures.visits c.args.places.now c.args.marks.now.items c.mark_all.new.marks.items c.mark_all.ensures.size c.mark_all.ensures.marked)
