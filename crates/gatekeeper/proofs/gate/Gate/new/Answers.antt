use Rattle.std.proofs.Common.{arith}
use Rattle.gatekeeper.proofs.Keeping.{keeps_none}
use Rattle.gatekeeper.proofs.gate.Gate.new.Goals as goal

pub invariant_of-result : goal.invariant_of-result
invariant_of-result c =
    keeps_none c.args.home c.args.shards _ _ c.in_ok-empty_channels.field-0.items _ _ c.new-3.ensures.items c.start.ensures c.new.ensures.empty
    (omega (arith, c.in_ok-empty_channels.field-0.ok.0, c.in_ok-empty_channels.ensures.count))
    c.in_ok-empty_channels.ensures.empty (omega (arith, c.requires.home, c.requires.gates)) c.requires.one_shard
