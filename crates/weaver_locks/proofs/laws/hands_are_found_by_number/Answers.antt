use Rattle.weaver_locks.proofs.ByNumber.{found, own-by-number}
use Rattle.weaver_locks.proofs.laws.hands_are_found_by_number.Goals as goal

pub returns : goal.returns
returns c = record { found = found; own = own-by-number }
