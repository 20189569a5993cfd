use Rattle.std.proofs.lemmas.Option.{slice_get_within}
use Rattle.gatekeeper.proofs.Delivery.{set_sent}
use Rattle.gatekeeper.proofs.sending.send_one.Goals as goal

pub returns-clause-sent : goal.returns-clause-sent
returns-clause-sent c =
    set_sent c.args.channels.now.items c.args.shard c.index_mut-channel.result.now c.push.new.self c.args.place
    (slice_get_within _ _ _ c.requires.at) c.index_mut-channel.ensures.value c.push.ensures.sent
