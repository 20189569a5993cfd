use Rattle.weave_drive.proofs.Driven.{drives-step}
use Rattle.weave_drive.proofs.stepping.step.Goals as goal

pub returns-clause-drives : goal.returns-clause-drives
returns-clause-drives c upto driving =
    drives-step upto c.args.core.now c.step.new.self c.args.step c.in_ok-answer.answer c.in_ok-answer.ensures.done c.requires c.script-2.ensures.core driving
