use Rattle.weaver_locks.proofs.EachLog.{own-gate, own-shard}
use Rattle.weaver_locks.proofs.laws.own_entries_of_each_log.Goals as goal

pub returns : goal.returns
returns c = record { gate = own-gate; shard = own-shard }
