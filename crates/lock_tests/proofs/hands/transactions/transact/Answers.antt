use Rattle.std.proofs.Common.{Err, subst}
use Rattle.weaver_locks.specs.Following.{MayHear}
use Rattle.weaver_locks.specs.Locks.{shard_count}
use Rattle.weaver_hands.specs.Transactions.{TransactsAs}
use Rattle.lock_tests.proofs.Began.{transact-busy, transact-done, transacted}
use Rattle.lock_tests.proofs.Options.{asked-last}
use Rattle.lock_tests.proofs.CarryingOn.{carries-on}
use Rattle.lock_tests.proofs.hands.transactions.transact.Goals as goal

pub transact-requires-clause-new : goal.transact-requires-clause-new
transact-requires-clause-new g c = c.requires.worker.fresh c.args.request c.requires.request

pub transact-requires-clause-last : goal.transact-requires-clause-last
transact-requires-clause-last g c =
    let me = c.args.me.now in
    asked-last (MayHear c.args.shared.now me.hand) c.args.last me.last c.requires.last c.requires.worker.heard

pub returns-in-Ok-clause-worker : goal.returns-in-Ok-clause-worker
returns-in-Ok-clause-worker g c =
    let laws = c.workers_keep_their_laws.ensures in
    let shared = c.args.shared.now in
    let me = c.args.me.now in
    let new = c.transact.new.hand in
    let done = c.in-Ok.done in
    let did = c.in-Ok.ensures.done in
    let on = transact-done laws shared me.hand new c.args.gate c.args.request c.args.ops.now c.args.last done c.requires.worker.is_hand
    c.requires.gate did in
    transacted laws shared me.hand new me.next me.last me.walk c.args.request c.from.result done.0 c.from.ensures c.requires.request on
    c.transact.ensures.hand c.requires.worker
    (c.calls_leave_others_alone.ensures.transact (shard_count shared) me.hand new c.args.gate c.args.request c.args.ops.now c.args.last
    c.transact.result c.transact.ensures.done)

pub returns-in-Ok-clause-number : goal.returns-in-Ok-clause-number
returns-in-Ok-clause-number g c =
    (transact-done c.workers_keep_their_laws.ensures c.args.shared.now c.args.me.now.hand c.transact.new.hand c.args.gate c.args.request
    c.args.ops.now c.args.last c.in-Ok.done c.requires.worker.is_hand c.requires.gate c.in-Ok.ensures.done).number

pub returns-in-Err-clause-worker : goal.returns-in-Err-clause-worker
returns-in-Err-clause-worker g c =
    let laws = c.workers_keep_their_laws.ensures in
    let shared = c.args.shared.now in
    let me = c.args.me.now in
    let new = c.transact.new.hand in
    let did = subst (λ fault. TransactsAs (shard_count shared) me.hand new c.args.gate c.args.request c.args.ops.now c.args.last (Err fault))
    c.only_busy.ensures c.in-Err.ensures.done in
    carries-on laws shared me.hand new me.next me.last me.walk
    (transact-busy laws shared me.hand new c.args.gate c.args.request c.args.ops.now c.args.last did)
    c.transact.ensures.hand c.requires.worker
    (c.calls_leave_others_alone.ensures.transact (shard_count shared) me.hand new c.args.gate c.args.request c.args.ops.now c.args.last
    c.transact.result c.transact.ensures.done)

pub returns-in-Err-clause-number : goal.returns-in-Err-clause-number
returns-in-Err-clause-number g c =
    let shared = c.args.shared.now in
    let me = c.args.me.now in
    let new = c.transact.new.hand in
    let did = subst (λ fault. TransactsAs (shard_count shared) me.hand new c.args.gate c.args.request c.args.ops.now c.args.last (Err fault))
    c.only_busy.ensures c.in-Err.ensures.done in
    (transact-busy c.workers_keep_their_laws.ensures shared me.hand new c.args.gate c.args.request c.args.ops.now c.args.last did).number
