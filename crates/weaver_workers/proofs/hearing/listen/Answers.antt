use Rattle.weaver_workers.proofs.There.{listens-there, was-said}
use Rattle.weaver_workers.proofs.hearing.listen.Goals as goal

pub returns-clause-there : goal.returns-clause-there
returns-clause-there g c to =
    let held = c.say.ensures.hold in listens-there c.args.shared.now _ _ _ c.args.from to held.0 c.say.ensures.hand held.1

pub returns-clause-said : goal.returns-clause-said
returns-clause-said g c = let held = c.say.ensures.hold in was-said _ _ _ c.args.from held.0 _ held.1 held.2
