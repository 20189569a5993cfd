use Rattle.std.proofs.Common.{refl}
use Rattle.weave_entries.specs.declared.gate_log.GateDeed.TheVariants.{BeganProgram}
use Rattle.weaver_locks.specs.Following.{MayHear}
use Rattle.weaver_locks.specs.Locks.{shard_count}
use Rattle.lock_tests.proofs.Began.{began, started}
use Rattle.lock_tests.proofs.Options.{asked-last}
use Rattle.lock_tests.proofs.hands.programs.start.Goals as goal

pub start-requires-clause-new : goal.start-requires-clause-new
start-requires-clause-new g c = c.requires.worker.fresh c.args.request c.requires.request

pub start-requires-clause-last : goal.start-requires-clause-last
start-requires-clause-last g c =
    let me = c.args.me.now in
    asked-last (MayHear c.args.shared.now me.hand) c.args.last me.last c.requires.last c.requires.worker.heard

pub returns-clause-worker : goal.returns-clause-worker
returns-clause-worker g c =
    let laws = c.workers_keep_their_laws.ensures in
    let shared = c.args.shared.now in
    let me = c.args.me.now in
    let new = c.start.new.hand in
    let request = c.args.request in
    let stamp = c.in-Ok.stamp in
    let did = c.in-Ok.ensures.done in
    let walk = c.expect-walk.result in
    let unread = rw c.expect-walk.ensures at c.new.ensures.reads in
    let fresh = c.requires.worker.fresh request c.requires.request in
    let on = began laws shared me.hand new c.args.gate request stamp (BeganProgram request stamp) refl did.before c.requires.worker.is_hand
    c.requires.gate did.begins in
    let running = laws.starts shared me.hand new c.args.gate request c.args.last stamp walk c.requires.worker.is_hand c.start.ensures.hand
    c.requires.gate fresh (c.requires.worker.unread request c.requires.request) did unread in
    started laws shared me.hand new me.next me.last me.walk request c.from.result stamp c.from.ensures c.requires.request on
    c.start.ensures.hand c.requires.worker
    (c.calls_leave_others_alone.ensures.start (shard_count shared) me.hand new c.args.gate request c.args.last c.start.result c.start.ensures.done)
    (record { request = request; stamp = stamp; walk = walk }) refl running

pub returns-clause-number : goal.returns-clause-number
returns-clause-number g c = c.in-Ok.ensures.done.begins.number
