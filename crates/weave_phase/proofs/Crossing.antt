-- A seat may be sent to another thread. The toolchain finds this for the parts of its worker but not for a hand.
-- Used by `run_all`.
use denote.Enum.Declared as choice
use denote.Param.Send.{IsSend, sendable, enum_send, recorded_send, struct_send}
use denote.Struct.Declared.{shape}
use Rattle.std.proofs.option.Option.TheSendSync as maybe
use Rattle.std.proofs.result.Result.TheSendSync as either
use Rattle.std.proofs.alloc.AllocError.TheSendSync as memory
use Rattle.weaver_core.proofs.client.Client.TheSendSync as client
use Rattle.weaver_locks.proofs.Crossing.{hand_send_within}
use Rattle.weaver_workers.proofs.ended.Ended.TheSendSync as ended
use Rattle.weaver_workers.specs.contracts.worker.Worker as worker
use Rattle.weave_phase.specs.contracts.seats.Seat as seat

-- a worker within a struct
worker_send_within : IsSend worker.the_field.row
worker_send_within = enum_send (choice.shape worker.the_type) (
  (hand_send_within, (client.the_field_send, tt)),
  ((hand_send_within, (search sendable, tt)), ((hand_send_within, (search sendable, tt)), tt)),
)

-- a seat may be sent to another thread
pub seat_send : IsSend seat.the_row
seat_send = recorded_send seat.the_field.row _ _ seat.the_type.to_one (struct_send (shape seat.the_type) (
  worker_send_within,
  (maybe.the_field_send _ (either.the_send _ _ ended.the_send memory.the_send), tt),
))
