use Rattle.std.proofs.Common.{sym}
use Rattle.order_witness.proofs.TurnSteps.{lowered_at}
use Rattle.order_witness.proofs.turns.is_before_commits.Goals as goal

pub returns : goal.returns
returns c =
    lowered_at c.args.script.now c.args.place c.args.state.now c.in-Some.request.now (sym c.in-Some.ensures) c.args.lows.now c.lower.new.lows c.is_before-is_before.result c.lower.ensures.size c.lower.ensures.no_more c.lower.ensures.there c.is_before-is_before.ensures
