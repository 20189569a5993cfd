use Rattle.std.proofs.Common.{sym, subst}
use Rattle.weave_drive.specs.Progress.{AppliesChannel}
use Rattle.weave_drive.proofs.Applications.{apply-done}
use Rattle.weave_drive.proofs.applying.apply.Goals as goal

pub returns-clause-applies : goal.returns-clause-applies
returns-clause-applies c =
    subst (AppliesChannel c.args.core.now.script.gates c.args.shard c.args.gate c.args.core.now.state c.step.new.core.state) (sym c.is_done.ensures)
    (apply-done c.the_crates_below_keep_their_laws.ensures c.args.core.now c.step.new.core c.args.shard c.args.gate c.in_ok-answer.answer c.in_ok-answer.ensures.cores c.requires.gate c.requires.shard c.in_ok-answer.ensures.done)
