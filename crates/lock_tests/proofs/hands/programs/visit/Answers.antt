use Rattle.std.proofs.Common.{◌∙◌, sym}
use Rattle.weaver_locks.specs.Locks.{gate_count, shard_count}
use Rattle.lock_tests.proofs.CarryingOn.{visit-same, visits-on}
use Rattle.lock_tests.proofs.Quiet.{visit-quiet}
use Rattle.lock_tests.proofs.hands.programs.visit.Goals as goal

pub visit-read-requires-clause-running : goal.visit-read-requires-clause-running
visit-read-requires-clause-running g c = c.requires.worker.running c.in-Some.running (sym c.replace.ensures.value ∙ c.in-Some.is)

pub returns-clause-worker : goal.returns-clause-worker
returns-clause-worker g c =
    let laws = c.workers_keep_their_laws.ensures in
    let shared = c.args.shared.now in
    let me = c.args.me.now in
    let new = c.visit-read.new.hand in
    let was = c.in-Some.running in
    let is = c.visit-read.new.running in
    let did = c.visit-read.ensures.done in
    visits-on laws shared me.hand new me.next me.last me.walk was is
    (visit-quiet laws shared me.hand new (gate_count shared) (shard_count shared) was is c.visit-read.result did) c.visit-read.ensures.hand
    c.requires.worker (sym c.replace.ensures.value ∙ c.in-Some.is)
    (c.calls_leave_others_alone.ensures.visit (gate_count shared) (shard_count shared) me.hand new was is c.visit-read.result did)
    (visit-same (gate_count shared) (shard_count shared) me.hand new was is c.visit-read.result did) c.visit-read.ensures.running

pub returns-clause-number : goal.returns-clause-number
returns-clause-number g c =
    let shared = c.args.shared.now in
    (visit-quiet c.workers_keep_their_laws.ensures shared c.args.me.now.hand c.visit-read.new.hand (gate_count shared) (shard_count shared)
    c.in-Some.running c.visit-read.new.running c.visit-read.result c.visit-read.ensures.done).number
