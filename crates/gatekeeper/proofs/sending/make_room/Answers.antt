use Rattle.std.proofs.Common.{rules, ◌<◌, length, arith}
use Rattle.weave_data.proofs.Lists.{get_set_here}
use Rattle.gatekeeper.proofs.sending.make_room.Goals as goal

pub returns-clause-room : goal.returns-clause-room
returns-clause-room c =
    let within : c.args.shard < length c.args.channels.now.items = omega (arith, c.args.channels.now.ok.0, c.requires) in
    record { channel = c.reserve.new.self; at = get_set_here c.args.channels.now.items c.args.shard c.reserve.new.self within; room = search rules }
