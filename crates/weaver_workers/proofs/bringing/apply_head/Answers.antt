use Rattle.weaver_workers.proofs.There.{applies-there}
use Rattle.weaver_workers.proofs.bringing.apply_head.Goals as goal

pub returns-in-Ok : goal.returns-in-Ok
returns-in-Ok g c = applies-there _ _ _ c.apply.ensures.hand _ _ _ _ c.apply.ensures.applied

pub returns-in-Err : goal.returns-in-Err
returns-in-Err g c = applies-there _ _ _ c.apply.ensures.hand _ _ _ _ c.apply.ensures.applied
