use Rattle.weaver_locks.specs.Locks.{shard_count}
use Rattle.lock_tests.proofs.CarryingOn.{carries-on}
use Rattle.lock_tests.proofs.Quiet.{nop-quiet}
use Rattle.lock_tests.proofs.hands.messages.nop.Goals as goal

pub returns-clause-worker : goal.returns-clause-worker
returns-clause-worker g c =
    let laws = c.workers_keep_their_laws.ensures in
    let shared = c.args.shared.now in
    let me = c.args.me.now in
    let new = c.nop.new.hand in
    let did = c.nop.ensures.sent in
    carries-on laws shared me.hand new me.next me.last me.walk
    (nop-quiet laws shared me.hand new (shard_count shared) c.args.gate c.args.shard c.nop.result did) c.nop.ensures.hand c.requires.worker
    (c.calls_leave_others_alone.ensures.nop (shard_count shared) me.hand new c.args.gate c.args.shard c.nop.result did)

pub returns-clause-number : goal.returns-clause-number
returns-clause-number g c =
    (nop-quiet c.workers_keep_their_laws.ensures c.args.shared.now c.args.me.now.hand c.nop.new.hand (shard_count c.args.shared.now)
    c.args.gate c.args.shard c.nop.result c.nop.ensures.sent).number
