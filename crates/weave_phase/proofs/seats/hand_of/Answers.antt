use Rattle.std.proofs.Common.{ap}
use Rattle.std.proofs.lemmas.Option.{slice_get-get_or}
use Rattle.weave_phase.specs.Seats.{client_in}
use Rattle.weave_phase.proofs.Placed.{has_session, unseated_client, unseated_other}
use Rattle.weave_phase.proofs.seats.hand_of.Goals as goal

pub index_mut-requires : goal.index_mut-requires
index_mut-requires c =
    let low = has_session c.args.sessions.now c.args.k c.args.worker c.in-ClientWork.hand c.in-ClientWork.client c.in-ClientWork.is c.requires.other in
    c.requires.there _ (slice_get-get_or c.args.sessions.now c.args.k 0 low)

pub returns-in-ClientWork-clause-back : goal.returns-in-ClientWork-clause-back
returns-in-ClientWork-clause-back c =
    let low = has_session c.args.sessions.now c.args.k c.args.worker c.in-ClientWork.hand c.in-ClientWork.client c.in-ClientWork.is c.requires.other in
    unseated_client c.args.sessions.now c.args.k _ c.args.worker c.in-ClientWork.hand c.in-ClientWork.client c.args.slots.now.items c.in-ClientWork.is
    (slice_get-get_or c.args.sessions.now c.args.k 0 low)

pub returns-in-GateWork-clause-back : goal.returns-in-GateWork-clause-back
returns-in-GateWork-clause-back c =
    unseated_other c.args.sessions.now c.args.k c.args.worker c.args.slots.now.items (ap client_in c.in-GateWork.is) c.requires.client

pub returns-in-ShardWork-clause-back : goal.returns-in-ShardWork-clause-back
returns-in-ShardWork-clause-back c =
    unseated_other c.args.sessions.now c.args.k c.args.worker c.args.slots.now.items (ap client_in c.in-ShardWork.is) c.requires.client
