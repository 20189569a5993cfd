-- A shard with notes may be sent to another thread, so its lock may be shared.
-- Used by crate weaver_locks.
use denote.Param.Send.{IsSync}
use Rattle.chronicle.proofs.Shares.{chronicle_sync}
use Rattle.chronicle.specs.contracts.chronicle.Chronicle as chronicle
use Rattle.weave_entries.specs.contracts.shard_log.ShardDeed as shard_deed
use Rattle.shard_lock.specs.contracts.noted_shard.NotedShard as noted
use Rattle.shard_lock.specs.contracts.noted_shard.NotedShardMachine.TheImpl as machine
use Rattle.shard_lock.proofs.noted_shard.NotedShard.TheSendSync as noted_sends

-- threads may share its lock
pub lock_sync : IsSync (chronicle.the_row noted.the_row shard_deed.the_row machine.ghosts)
lock_sync = chronicle_sync noted.the_row shard_deed.the_row machine.ghosts noted_sends.the_send
