use Rattle.std.proofs.Common.{◌∙◌, subst, sym}
use Rattle.weaver_locks.specs.Locks.{shard_count}
use Rattle.lock_tests.specs.ReadyWorkers.{IsWorkerOf}
use Rattle.lock_tests.proofs.CarryingOn.{ends-on}
use Rattle.lock_tests.proofs.Quiet.{finish-quiet}
use Rattle.lock_tests.proofs.hands.programs.finish.Goals as goal

pub finish-requires-clause-running : goal.finish-requires-clause-running
finish-requires-clause-running g c = c.requires.worker.running c.in-Some.running (sym c.replace.ensures.value ∙ c.in-Some.is)

pub returns-clause-worker : goal.returns-clause-worker
returns-clause-worker g c =
    let laws = c.workers_keep_their_laws.ensures in
    let shared = c.args.shared.now in
    let me = c.args.me.now in
    let new = c.finish.new.hand in
    let running = c.in-Some.running in
    let did = c.finish.ensures.done in
    subst (IsWorkerOf shared new me.next me.last) (sym c.replace.ensures.after)
    (ends-on laws shared me.hand new me.next me.last me.walk
    (finish-quiet laws shared me.hand new (shard_count shared) running c.finish.result did) c.finish.ensures.hand c.requires.worker
    (c.calls_leave_others_alone.ensures.finish_visits (shard_count shared) me.hand new running c.finish.result did))

pub returns-clause-number : goal.returns-clause-number
returns-clause-number g c =
    (finish-quiet c.workers_keep_their_laws.ensures c.args.shared.now c.args.me.now.hand c.finish.new.hand (shard_count c.args.shared.now)
    c.in-Some.running c.finish.result c.finish.ensures.done).number
