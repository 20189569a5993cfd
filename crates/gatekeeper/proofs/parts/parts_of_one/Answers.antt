use Rattle.std.proofs.Common.{[], arith}
use Rattle.gatekeeper.proofs.Sharing.{shard_within, share_more}
use Rattle.gatekeeper.proofs.parts.parts_of_one.Goals as goal

pub index_mut-requires : goal.index_mut-requires
index_mut-requires c =
    let within = shard_within c.args.shards c.args.ops.now [] c.args.counted.now.vertex _ c.requires.some c.in_ok-shares.ensures in
    omega (arith, c.in_ok-shares.shares.ok.0, c.shard-place.ensures, within)

pub returns : goal.returns
returns c =
    let one = c.args.counted.now in
    share_more c.args.shards c.args.ops.now [] one c.shard-place.result _ c.in_ok-shares.shares.items c.index_mut.result.now c.push_lean.new.self c.requires.some c.shard-place.ensures
    (λ i. record { vertex = one.vertex; before = one.before; ops = c.in_ok-chosen.ensures i }) c.in_ok-shares.ensures c.index_mut.ensures.value c.in_ok-push_lean.ensures.ok
