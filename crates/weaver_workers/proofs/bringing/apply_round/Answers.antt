use Rattle.weaver_workers.proofs.There.{shard-on, shard-start}
use Rattle.weaver_workers.proofs.bringing.apply_round.Goals as goal

pub loop-gate-init : goal.loop-gate-init
loop-gate-init g c = shard-start c.args.shared.now c.args.shard c.args.hand.now c.requires.hand

pub apply_channel-requires-clause-hand : goal.apply_channel-requires-clause-hand
apply_channel-requires-clause-hand g c = c.loop-gate.invariant.carries.hand

pub returns-in_err-applied : goal.returns-in_err-applied
returns-in_err-applied g c = shard-on _ _ _ _ _ c.loop-gate.invariant c.apply_channel.ensures

pub loop-gate-preserved : goal.loop-gate-preserved
loop-gate-preserved g c = shard-on _ _ _ _ _ c.loop-gate.invariant c.apply_channel.ensures

pub returns : goal.returns
returns g c = c.loop-gate.invariant
