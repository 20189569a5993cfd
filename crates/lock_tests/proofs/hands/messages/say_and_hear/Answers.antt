use Rattle.weaver_locks.specs.Locks.{shard_count}
use Rattle.lock_tests.proofs.CarryingOn.{carries-on}
use Rattle.lock_tests.proofs.Quiet.{tell-quiet}
use Rattle.lock_tests.proofs.hands.messages.say_and_hear.Goals as goal

pub returns-clause-worker : goal.returns-clause-worker
returns-clause-worker g c =
    let laws = c.workers_keep_their_laws.ensures in
    let shared = c.args.shared.now in
    let me = c.args.me.now in
    let new = c.say_and_hear.new.hand in
    let did = c.say_and_hear.ensures.told in
    carries-on laws shared me.hand new me.next me.last me.walk
    (tell-quiet laws shared me.hand new (shard_count shared) c.args.from c.args.to c.say_and_hear.result did) c.say_and_hear.ensures.hand c.requires.worker
    (c.calls_leave_others_alone.ensures.tell (shard_count shared) me.hand new c.args.from c.args.to c.say_and_hear.result did)

pub returns-clause-number : goal.returns-clause-number
returns-clause-number g c =
    (tell-quiet c.workers_keep_their_laws.ensures c.args.shared.now c.args.me.now.hand c.say_and_hear.new.hand (shard_count c.args.shared.now)
    c.args.from c.args.to c.say_and_hear.result c.say_and_hear.ensures.told).number
