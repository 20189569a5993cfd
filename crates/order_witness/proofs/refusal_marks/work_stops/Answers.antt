use Rattle.std.proofs.Common.{◌≡◌, Err, List, sym, subst}
use Rattle.std.specs.Prelude.{IfOk}
use Rattle.graph_ops.specs.declared.op.Op.{Op}
use Rattle.graph_ops.specs.Graphs.{plain_of}
use Rattle.graph_ops.specs.PlainGraph.{transaction}
use Rattle.program_defs.specs.declared.script.Work.{Work}
use Rattle.report_rules.specs.Replay.{IsWorkRefused}
use Rattle.order_witness.specs.Refusals.{Marks}
use Rattle.order_witness.proofs.refusal_marks.work_stops.Goals as goal

pub returns-in-Change-clause-mark : goal.returns-in-Change-clause-mark
returns-in-Change-clause-mark c =
    subst (λ (work : Work). IfOk c.stops.result (λ refused. Marks refused (IsWorkRefused (plain_of c.args.graph.now) work c.args.op c.args.reason))) (sym c.in-Change.is)
    (subst (λ (ops : List Op). IfOk c.stops.result (λ refused. Marks refused (transaction ops (plain_of c.args.graph.now) ≡ Err (record { op = c.args.op; reason = c.args.reason })))) c.as_slice.ensures c.stops.ensures.mark)
