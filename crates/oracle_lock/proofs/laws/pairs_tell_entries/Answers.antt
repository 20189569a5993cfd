use Rattle.oracle_lock.proofs.Settling.{pairs_back}
use Rattle.oracle_lock.proofs.laws.pairs_tell_entries.Goals as goal

pub returns : goal.returns
returns c = pairs_back
