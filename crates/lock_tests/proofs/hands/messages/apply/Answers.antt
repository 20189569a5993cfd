use Rattle.weaver_locks.specs.Locks.{shard_count}
use Rattle.lock_tests.proofs.CarryingOn.{carries-on}
use Rattle.lock_tests.proofs.Quiet.{apply-quiet}
use Rattle.lock_tests.proofs.hands.messages.apply.Goals as goal

pub returns-clause-worker : goal.returns-clause-worker
returns-clause-worker g c =
    let laws = c.workers_keep_their_laws.ensures in
    let shared = c.args.shared.now in
    let me = c.args.me.now in
    let new = c.apply.new.hand in
    let did = c.apply.ensures.applied in
    carries-on laws shared me.hand new me.next me.last me.walk
    (apply-quiet laws shared me.hand new (shard_count shared) c.args.shard c.args.gate c.apply.result did) c.apply.ensures.hand c.requires.worker
    (c.calls_leave_others_alone.ensures.apply (shard_count shared) me.hand new c.args.shard c.args.gate c.apply.result did)

pub returns-clause-number : goal.returns-clause-number
returns-clause-number g c =
    (apply-quiet c.workers_keep_their_laws.ensures c.args.shared.now c.args.me.now.hand c.apply.new.hand (shard_count c.args.shared.now)
    c.args.shard c.args.gate c.apply.result c.apply.ensures.applied).number
