use Rattle.std.proofs.Common.{◌<◌, length, arith}
use Rattle.std.proofs.lemmas.Option.{slice_get-get_or}
use Rattle.weave_phase.proofs.Placed.{seated_client, seated_gate, seated_shard}
use Rattle.weave_phase.proofs.seats.worker_of.Goals as goal

pub take_client-client-requires : goal.take_client-client-requires
take_client-client-requires c =
    let low : c.args.k < length c.args.sessions.now = omega arith in
    record { there = c.requires.there _ (slice_get-get_or c.args.sessions.now c.args.k 0 low) }

pub returns-then-k-sessions : goal.returns-then-k-sessions
returns-then-k-sessions c =
    let low : c.args.k < length c.args.sessions.now = omega arith in
    seated_client c.args.sessions.now c.args.gates c.args.k _ c.args.hand c.take_client-client.result c.args.slots.now.items _
    (slice_get-get_or c.args.sessions.now c.args.k 0 low) c.take_client-client.ensures.client c.take_client-client.ensures.left

pub returns-then-other-gates : goal.returns-then-other-gates
returns-then-other-gates c =
    seated_gate c.args.sessions.now c.args.gates c.args.k c.args.hand c.args.slots.now.items (omega arith) (omega arith)

pub returns : goal.returns
returns c = seated_shard c.args.sessions.now c.args.gates c.args.k c.args.hand c.args.slots.now.items (omega arith) (omega arith)
