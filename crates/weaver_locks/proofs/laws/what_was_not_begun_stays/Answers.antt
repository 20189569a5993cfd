use Rattle.weaver_locks.proofs.Following.{stays-new, stays-unbegun}
use Rattle.weaver_locks.proofs.laws.what_was_not_begun_stays.Goals as goal

pub returns : goal.returns
returns c = record { gate = stays-new; others = stays-unbegun }
