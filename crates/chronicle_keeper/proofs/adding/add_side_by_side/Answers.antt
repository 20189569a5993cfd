use denote.Param.Send.{sendable}
use Rattle.chronicle.proofs.Shares.{chronicle_sync, pass_send}
use Rattle.chronicle_keeper.proofs.tally.Tally.TheSendSync as tally
use Rattle.chronicle_keeper.proofs.adding.add_side_by_side.Goals as goal

pub for_each_mut-requires-send-T : goal.for_each_mut-requires-send-T
for_each_mut-requires-send-T g c κs within = search (pass_send, sendable) depth 12

pub for_each_mut-requires-sync-F : goal.for_each_mut-requires-sync-F
for_each_mut-requires-sync-F g c κs within = search (chronicle_sync, tally.the_send, sendable) depth 12
