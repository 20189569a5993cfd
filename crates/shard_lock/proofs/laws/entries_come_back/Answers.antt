use Rattle.shard_lock.proofs.Entries.{entries_back, pairs_back}
use Rattle.shard_lock.proofs.laws.entries_come_back.Goals as goal

pub returns : goal.returns
returns c = record { log = entries_back; pairs = pairs_back }
