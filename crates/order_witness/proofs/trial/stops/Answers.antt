use Rattle.graph_ops.specs.Graphs.{plain_of}
use Rattle.graph_ops.specs.PlainGraph.{transaction}
use Rattle.order_witness.proofs.Trials.{passed_so, told}
use Rattle.order_witness.proofs.trial.stops.Goals as goal

pub returns-in-Ok-clause-mark : goal.returns-in-Ok-clause-mark
returns-in-Ok-clause-mark c = passed_so (transaction c.args.ops.now (plain_of c.args.graph.now)) _ _ c.in-Ok.ensures.done

pub returns-in-Err-Refused-clause-mark : goal.returns-in-Err-Refused-clause-mark
returns-in-Err-Refused-clause-mark c =
    told c.is_that.result (transaction c.args.ops.now (plain_of c.args.graph.now)) c.in-Err-Refused.stopped c.args.op c.in-Err-Refused.cause c.args.reason (rw c.in-Err-Refused.field-0-is at c.is_that.ensures) (rw c.in-Err-Refused.field-0-is at c.in-Err-Refused.ensures.refused)
