use Rattle.std.proofs.Common.{arith, subst, sym}
use Rattle.lock_tests.specs.Workers.{IsPlayer}
use Rattle.lock_tests.proofs.Opening.{new-player}
use Rattle.lock_tests.proofs.Seated.{client-new, idle-new}
use Rattle.lock_tests.proofs.turns.bench.seat_of.Goals as goal

pub returns-in-Client : goal.returns-in-Client
returns-in-Client g c =
    let new = c.requires.new in
    client-new c.args.shared.now new.0 c.args.hand new.1 c.workers_keep_their_laws.ensures c.args.script.now c.in-Client.session
    c.new_client-client.result (c.requests_of_a_session_rise.ensures.rise c.args.script.now c.in-Client.session)
    c.new_client-client.ensures

pub returns-in-Gate : goal.returns-in-Gate
returns-in-Gate g c =
    let new = c.requires.new in (
      idle-new c.args.shared.now new.0 c.args.hand new.1,
      omega (arith, c.gate_of-gate.ensures.below, c.requires.bench.two_gates),
    )

pub returns-in-Shard : goal.returns-in-Shard
returns-in-Shard g c =
    let new = c.requires.new in (
      idle-new c.args.shared.now new.0 c.args.hand new.1,
      omega (arith, c.shard_of-shard.ensures.below, c.requires.bench.locks.shards),
    )

pub returns-in-Player : goal.returns-in-Player
returns-in-Player g c =
    let new = c.requires.new in
    subst (IsPlayer c.args.shared.now) (sym c.new_player.ensures) (new-player c.args.shared.now new.0 c.args.hand new.1).is
