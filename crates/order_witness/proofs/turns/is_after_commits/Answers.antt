use Rattle.std.proofs.Common.{sym}
use Rattle.order_witness.proofs.TurnSteps.{raised_at}
use Rattle.order_witness.proofs.turns.is_after_commits.Goals as goal

pub returns : goal.returns
returns c =
    raised_at c.args.script.now c.args.place c.args.state.now c.in-Some.request.now (sym c.in-Some.ensures) c.args.tops.now c.raise.new.tops c.is_after-is_after.result c.raise.ensures.size c.raise.ensures.no_less c.raise.ensures.there c.is_after-is_after.ensures
