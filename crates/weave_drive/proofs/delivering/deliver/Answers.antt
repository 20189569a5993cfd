use Rattle.std.proofs.Common.{subst, sym}
use Rattle.weave_drive.specs.Progress.{DeliversMessage}
use Rattle.weave_drive.proofs.Deliveries.{deliver-done}
use Rattle.weave_drive.proofs.delivering.deliver.Goals as goal

pub returns-clause-delivers : goal.returns-clause-delivers
returns-clause-delivers c =
    subst (DeliversMessage c.args.gate c.args.shard c.args.number c.args.core.now.state.account c.step.new.core.state.account) (sym c.is_sent.ensures)
    (deliver-done c.args.core.now c.step.new.core c.args.gate c.args.shard c.args.number c.in_ok-answer.answer c.in_ok-answer.ensures.cores c.requires.shard c.in_ok-answer.ensures.done)
