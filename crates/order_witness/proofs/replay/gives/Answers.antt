use Rattle.std.proofs.Common.{Bool, List, sym, ap, ◌∙◌, subst}
use Rattle.std.specs.Cmp.Lexicographic.{pointwise}
use Rattle.graph_ops.specs.Graphs.{plain_of}
use Rattle.graph_ops.specs.PlainGraph.{graph_left, transaction}
use Rattle.graph_ops.specs.declared.tx.Got.{Got}
use Rattle.order_witness.specs.Answers.{same_got}
use Rattle.order_witness.specs.Replay.{GivesAnswers, TellsOf}
use Rattle.order_witness.proofs.Replays.{gave}
use Rattle.order_witness.proofs.replay.gives.Goals as goal

pub returns-in-Ok : goal.returns-in-Ok
returns-in-Ok c =
    subst (λ (b : Bool). TellsOf (GivesAnswers (transaction c.args.ops.now (plain_of c.args.graph.now)) c.args.answers.now) (plain_of c.run_tx.new.self) (graph_left (plain_of c.args.graph.now) (transaction c.args.ops.now (plain_of c.args.graph.now))) b)
    (sym (c.same_answers.ensures ∙ ap (λ (gots : List Got). pointwise same_got gots c.args.answers.now) c.as_slice.ensures.value))
    (gave (transaction c.args.ops.now (plain_of c.args.graph.now)) (plain_of c.args.graph.now) (plain_of c.run_tx.new.self) c.in-Ok.gots.items c.args.answers.now c.in-Ok.ensures.done)
