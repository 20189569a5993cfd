use Rattle.weaver_workers.proofs.There.{pulls-there}
use Rattle.weaver_workers.proofs.bringing.bring_one.Goals as goal

pub returns-in-Ok : goal.returns-in-Ok
returns-in-Ok g c = pulls-there _ _ _ c.pull.ensures.hand _ _ _ _ _ c.pull.ensures.pulled

pub returns-in-Err : goal.returns-in-Err
returns-in-Err g c = pulls-there _ _ _ c.pull.ensures.hand _ _ _ _ _ c.pull.ensures.pulled
