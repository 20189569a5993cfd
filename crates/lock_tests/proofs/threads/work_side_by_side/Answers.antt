use denote.Param.Send.{sendable}
use Rattle.std.proofs.Crossing.{sync}
use Rattle.weaver_locks.proofs.Crossing.{shared_sync}
use Rattle.lock_tests.proofs.Crossing.{player_send}
use Rattle.lock_tests.proofs.threads.work_side_by_side.Goals as goal

pub for_each_mut-requires-send-T : goal.for_each_mut-requires-send-T
for_each_mut-requires-send-T g c κs within = search (player_send, sendable) depth 12

pub for_each_mut-requires-sync-F : goal.for_each_mut-requires-sync-F
for_each_mut-requires-sync-F g c κs within = search (shared_sync, sync, sendable) depth 12
