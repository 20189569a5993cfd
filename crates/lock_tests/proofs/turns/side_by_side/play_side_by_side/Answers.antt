use denote.Param.Send.{sendable}
use Rattle.std.proofs.Crossing.{sync}
use Rattle.weaver_locks.proofs.Crossing.{shared_sync}
use Rattle.program_defs.proofs.script.Script.TheSendSync as script
use Rattle.lock_tests.proofs.Crossing.{seat_send}
use Rattle.lock_tests.proofs.turns.pace.Hold.TheSendSync as hold
use Rattle.lock_tests.proofs.turns.side_by_side.Table.TheSendSync as table
use Rattle.lock_tests.proofs.turns.side_by_side.play_side_by_side.Goals as goal

pub for_each_mut-requires-send-T : goal.for_each_mut-requires-send-T
for_each_mut-requires-send-T g c κs within = search (seat_send, sendable) depth 12

-- What the closure holds may be shared: each reference, in the order in which they are captured.
pub for_each_mut-requires-sync-F : goal.for_each_mut-requires-sync-F
for_each_mut-requires-sync-F g c κs within = record {
  shared = λ x b o κ. (
    (
      (λ q. tt, c.type_bounds.sync-R.shared x.0.now x.0.ref_ptr.0 x.0.ref_ptr.1 _),
      (
        (λ q. tt, sync.shared x.1.now x.1.ref_ptr.0 x.1.ref_ptr.1 κ),
        (
          (λ q. tt, shared_sync.shared x.2.now x.2.ref_ptr.0 x.2.ref_ptr.1 _),
          (
            (λ q. tt, script.the_sync.shared x.3.now x.3.ref_ptr.0 x.3.ref_ptr.1 _),
            (
              (λ q. tt, table.the_sync.shared x.4.now x.4.ref_ptr.0 x.4.ref_ptr.1 _),
              ((λ q. tt, hold.the_sync.shared x.5.now x.5.ref_ptr.0 x.5.ref_ptr.1 _), tt),
            ),
          ),
        ),
      ),
    ),
    λ q. tt,
  );
}
