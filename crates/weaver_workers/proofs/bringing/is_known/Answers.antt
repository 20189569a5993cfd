use Rattle.weaver_workers.proofs.There.{brings-there}
use Rattle.weaver_workers.proofs.bringing.is_known.Goals as goal

pub returns-in-Ok : goal.returns-in-Ok
returns-in-Ok g c = brings-there _ _ _ c.bring.ensures.hand _ _ _ _ _ c.bring.ensures.brought
