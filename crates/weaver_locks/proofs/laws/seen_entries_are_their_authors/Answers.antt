use Rattle.weaver_locks.proofs.EachLog.{seen-gate-made, seen-oracle-made, seen-shard-made, seen-store-made}
use Rattle.weaver_locks.proofs.laws.seen_entries_are_their_authors.Goals as goal

pub returns : goal.returns
returns c = record { gate = seen-gate-made; store = seen-store-made; oracle = seen-oracle-made; shard = seen-shard-made }
