use Rattle.weaver_workers.proofs.There.{gate-on, gate-start}
use Rattle.weaver_workers.proofs.gate_work.send_to_all.Goals as goal

pub loop-shard-init : goal.loop-shard-init
loop-shard-init g c = gate-start c.args.shared.now c.args.gate c.args.hand.now c.requires.hand

pub send_empty-requires-clause-hand : goal.send_empty-requires-clause-hand
send_empty-requires-clause-hand g c = c.loop-shard.invariant.carries.hand

pub returns-in_err-send_empty : goal.returns-in_err-send_empty
returns-in_err-send_empty g c = gate-on _ _ _ _ _ c.loop-shard.invariant c.send_empty.ensures

pub loop-shard-preserved : goal.loop-shard-preserved
loop-shard-preserved g c = gate-on _ _ _ _ _ c.loop-shard.invariant c.send_empty.ensures

pub returns : goal.returns
returns g c = c.loop-shard.invariant
