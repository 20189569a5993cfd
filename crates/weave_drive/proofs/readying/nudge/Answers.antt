use Rattle.std.proofs.Common.{refl}
use Rattle.weave_drive.proofs.Driven.{drives-through}
use Rattle.weave_drive.proofs.Nudging.{nudge-done}
use Rattle.weave_drive.proofs.readying.nudge.Goals as goal

pub returns-clause-drives : goal.returns-clause-drives
returns-clause-drives c =
    drives-through 0 c.args.core.now c.step-2.new.core c.step-3.new.core
    (drives-through 0 c.args.core.now c.step.new.core c.step-2.new.core (c.step.ensures.drives 0 refl) (c.step-2.ensures.drives 0 refl)) (c.step-3.ensures.drives 0 refl)

pub returns-clause-nudges : goal.returns-clause-nudges
returns-clause-nudges c =
    nudge-done c.the_crates_below_keep_their_laws.ensures c.args.core.now c.step.new.core c.step-2.new.core c.step-3.new.core c.args.home c.args.gate c.args.shard c.notices-notice.result _ _ _
    c.in_ok-step.ensures.cores c.requires.quiet c.requires.home c.requires.gate c.notices-notice.ensures c.in_ok-step.ensures.done c.in_ok-step-2.ensures.done c.in_ok-step-3.ensures.done

pub returns-in_err-step-3-clause-drives : goal.returns-in_err-step-3-clause-drives
returns-in_err-step-3-clause-drives c =
    drives-through 0 c.args.core.now c.step-2.new.core c.step-3.new.core
    (drives-through 0 c.args.core.now c.step.new.core c.step-2.new.core (c.step.ensures.drives 0 refl) (c.step-2.ensures.drives 0 refl)) (c.step-3.ensures.drives 0 refl)
