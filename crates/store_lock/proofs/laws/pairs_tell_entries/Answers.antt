use Rattle.store_lock.proofs.Begun.{pairs-back}
use Rattle.store_lock.proofs.laws.pairs_tell_entries.Goals as goal

pub returns : goal.returns
returns c = pairs-back
