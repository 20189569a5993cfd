use Rattle.weaver_workers.proofs.There.{sends-there}
use Rattle.weaver_workers.proofs.nudging.send_empty.Goals as goal

pub returns-in-Ok : goal.returns-in-Ok
returns-in-Ok g c = sends-there _ _ _ c.nop.ensures.hand _ _ _ _ c.nop.ensures.sent

pub returns-in-Err : goal.returns-in-Err
returns-in-Err g c = sends-there _ _ _ c.nop.ensures.hand _ _ _ _ c.nop.ensures.sent
