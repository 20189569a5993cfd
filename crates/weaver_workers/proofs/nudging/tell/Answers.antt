use Rattle.weaver_workers.proofs.There.{gate-start, heard-now, tells-there}
use Rattle.weaver_workers.proofs.nudging.tell.Goals as goal

pub returns-then-from-to-clause-there : goal.returns-then-from-to-clause-there
returns-then-from-to-clause-there g c = gate-start c.args.shared.now c.args.to c.args.hand.now c.requires.hand

pub returns-then-from-to-clause-heard : goal.returns-then-from-to-clause-heard
returns-then-from-to-clause-heard g c other = absurd (other c.if-from-to.true)

pub returns-in-Ok-clause-there : goal.returns-in-Ok-clause-there
returns-in-Ok-clause-there g c = tells-there _ _ _ c.say_and_hear.ensures.hand _ _ _ _ c.say_and_hear.ensures.told

pub returns-in-Ok-clause-heard : goal.returns-in-Ok-clause-heard
returns-in-Ok-clause-heard g c other = heard-now _ _ _ _ _ _ c.requires.hand c.requires.to c.in-Ok.ensures.told

pub returns-in-Err-clause-there : goal.returns-in-Err-clause-there
returns-in-Err-clause-there g c = tells-there _ _ _ c.say_and_hear.ensures.hand _ _ _ _ c.say_and_hear.ensures.told
