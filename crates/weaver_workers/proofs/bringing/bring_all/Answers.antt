use Rattle.weaver_workers.proofs.There.{shard-on, shard-start}
use Rattle.weaver_workers.proofs.bringing.bring_all.Goals as goal

pub loop-gate-init : goal.loop-gate-init
loop-gate-init g c = shard-start c.args.shared.now c.args.shard c.args.hand.now c.requires.hand

pub known_to-requires-clause-hand : goal.known_to-requires-clause-hand
known_to-requires-clause-hand g c = c.loop-gate.invariant.carries.hand

pub returns-in_err-known : goal.returns-in_err-known
returns-in_err-known g c = shard-on _ _ _ _ _ c.loop-gate.invariant c.known_to.ensures

pub bring_from-requires-clause-hand : goal.bring_from-requires-clause-hand
bring_from-requires-clause-hand g c = c.known_to.ensures.carries.hand

pub returns-in_err-number : goal.returns-in_err-number
returns-in_err-number g c = shard-on _ _ _ _ _ (shard-on _ _ _ _ _ c.loop-gate.invariant c.known_to.ensures) c.bring_from.ensures

pub loop-gate-preserved : goal.loop-gate-preserved
loop-gate-preserved g c = shard-on _ _ _ _ _ (shard-on _ _ _ _ _ c.loop-gate.invariant c.known_to.ensures) c.bring_from.ensures

pub returns : goal.returns
returns g c = c.loop-gate.invariant
