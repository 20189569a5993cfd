use Rattle.std.proofs.Common.{List, refl, sym, subst}
use Rattle.std.specs.Prelude.{IfOk}
use Rattle.graph_ops.specs.Graphs.{plain_of}
use Rattle.graph_ops.specs.PlainGraph.{graph_left, transaction}
use Rattle.graph_ops.specs.declared.op.Op.{Op}
use Rattle.program_defs.specs.declared.script.Work.{Work}
use Rattle.report_rules.specs.Replay.{AnswerMatchesReply, MatchesReply, OutcomeMatchesReply, graph_after_work}
use Rattle.order_witness.specs.Replay.{TellsOf}
use Rattle.order_witness.proofs.Visiting.{with_graph}
use Rattle.order_witness.proofs.replay.replay_work.Goals as goal

pub returns-in-Change-clause-replayed : goal.returns-in-Change-clause-replayed
returns-in-Change-clause-replayed c =
    subst (λ (work : Work). IfOk c.replay_transaction.result (TellsOf (MatchesReply (plain_of c.args.graph.now) work c.args.state.now) (plain_of c.replay_transaction.new.graph) (graph_after_work (plain_of c.args.graph.now) work))) (sym c.in-Change.is)
    (subst (λ (ops : List Op). IfOk c.replay_transaction.result (TellsOf (OutcomeMatchesReply (transaction ops (plain_of c.args.graph.now)) c.args.state.now) (plain_of c.replay_transaction.new.graph) (graph_left (plain_of c.args.graph.now) (transaction ops (plain_of c.args.graph.now))))) c.as_slice.ensures c.replay_transaction.ensures)

pub returns-in-Look-clause-replayed : goal.returns-in-Look-clause-replayed
returns-in-Look-clause-replayed c =
    let graph = plain_of c.args.graph.now in
    subst (λ (work : Work). IfOk c.replay_program.result (TellsOf (MatchesReply graph work c.args.state.now) graph (graph_after_work graph work))) (sym c.in-Look.is)
    (with_graph c.replay_program.result (AnswerMatchesReply graph c.in-Look.program c.args.state.now) graph graph refl c.replay_program.ensures.answered)
