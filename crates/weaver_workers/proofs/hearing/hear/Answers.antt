use Rattle.weaver_workers.proofs.There.{hears-there, is-told}
use Rattle.weaver_workers.proofs.hearing.hear.Goals as goal

pub returns-clause-there : goal.returns-clause-there
returns-clause-there g c =
    let held = c.hear.ensures.hold in hears-there c.args.shared.now _ _ _ c.args.to held.0 _ _ c.hear.ensures.hand held.1

pub returns-clause-told : goal.returns-clause-told
returns-clause-told g c =
    let held = c.hear.ensures.hold in
    is-told c.args.shared.now _ _ _ c.args.to held.0 _ _ c.requires.hand c.requires.to held.1
