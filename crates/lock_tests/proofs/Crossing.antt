-- A player may be sent to another thread, and so may a worker in `hands` and a seat in `turns`. The toolchain finds this
-- for their parts but not for a hand, which holds passes.
-- Used by `play_side_by_side` and `work_side_by_side`.
use denote.Builtin.{u32}
use denote.Enum.Declared as choice
use denote.Param.Send.{IsSend, sendable, enum_send, recorded_send, struct_send}
use denote.Struct.Declared.{shape}
use Rattle.std.proofs.option.Option.TheSendSync as maybe
use Rattle.vector_stamp.proofs.clock.Clock.TheSendSync as clock
use Rattle.vector_stamp.proofs.clock.Stamp.TheSendSync as stamp
use Rattle.weave_data.proofs.items.Items.TheSendSync as items
use Rattle.weaver_core.proofs.client.Client.TheSendSync as client
use Rattle.weaver_core.proofs.walks.Running.TheSendSync as running
use Rattle.weaver_locks.proofs.Crossing.{hand_send_within}
use Rattle.weaver_workers.specs.contracts.worker.Worker as phase_worker
use Rattle.lock_tests.proofs.worker.Step.TheSendSync as step
use Rattle.lock_tests.proofs.worker.Walk.TheSendSync as walk
use Rattle.lock_tests.proofs.hands.worker.Ended.TheSendSync as ended
use Rattle.lock_tests.specs.contracts.worker.Player as player
use Rattle.lock_tests.specs.contracts.worker.Worker as player_worker
use Rattle.lock_tests.specs.contracts.hands.worker.Worker as worker
use Rattle.lock_tests.specs.contracts.turns.seat.Seat as seat

worker_send_within : IsSend player_worker.the_field.row
worker_send_within = struct_send (shape player_worker.the_type) (
  hand_send_within,
  (
    search sendable,
    (
      maybe.the_field_send _ stamp.the_send,
      (
        maybe.the_field_send _ clock.the_send,
        (maybe.the_field_send _ walk.the_send, (maybe.the_field_send u32 (search sendable), tt)),
      ),
    ),
  ),
)

player_send_within : IsSend player.the_field.row
player_send_within = struct_send (shape player.the_type) (worker_send_within, (step.the_field_send, tt))

-- a player may be sent to another thread
pub player_send : IsSend player.the_row
player_send = recorded_send player.the_field.row _ _ player.the_type.to_one player_send_within

-- a worker may be sent to another thread
pub worker_send : IsSend worker.the_row
worker_send = recorded_send worker.the_field.row _ _ worker.the_type.to_one (struct_send (shape worker.the_type) (
  hand_send_within,
  (
    search sendable,
    (
      maybe.the_field_send _ stamp.the_send,
      (maybe.the_field_send _ running.the_send, (items.the_send _ ended.the_send, tt)),
    ),
  ),
))

phase_worker_send_within : IsSend phase_worker.the_field.row
phase_worker_send_within = enum_send (choice.shape phase_worker.the_type) (
  (hand_send_within, (client.the_field_send, tt)),
  ((hand_send_within, (search sendable, tt)), ((hand_send_within, (search sendable, tt)), tt)),
)

-- a seat may be sent to another thread
pub seat_send : IsSend seat.the_row
seat_send = recorded_send seat.the_field.row _ _ seat.the_type.to_one (enum_send (choice.shape seat.the_type) (
  (phase_worker_send_within, tt),
  ((player_send_within, tt), tt),
))
