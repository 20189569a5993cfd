use Rattle.std.proofs.Common.{length, refl}
use Rattle.lock_tests.proofs.Going.{at-shard, only-hand, program-read, runs-now}
use Rattle.lock_tests.proofs.Made.{none-quiet}
use Rattle.lock_tests.proofs.Read.{visited-ends}
use Rattle.lock_tests.proofs.calls_at_shards.visit.Goals as goal

pub visit-requires-clause-running : goal.visit-requires-clause-running
visit-requires-clause-running g c =
    let walk = c.in-Some.walk in (
      walk.home,
      runs-now c.workers_keep_their_laws.ensures c.args.shared.now c.args.me.now.hand c.requires.worker.hand walk.home walk.request
          walk.stamp (c.requires.worker.walk walk c.in-Some.is),
    )

pub returns-in-Err-clause-worker : goal.returns-in-Err-clause-worker
returns-in-Err-clause-worker g c =
    let was = c.in-Err.ensures.hold.was in
    let old = c.args.me.now.hand in
    let on = at-shard c.args.shared.now old c.visit.new.hand c.shard-shard.result c.in-Err.ensures.hold.before _ _ c.in-Err.ensures.hand was in
    only-hand c.workers_keep_their_laws.ensures c.args.shared.now old c.visit.new.hand _ on c.args.me.now refl c.requires.worker none-quiet

pub returns-clause-worker : goal.returns-clause-worker
returns-clause-worker g c =
    let hold = c.in-Ok.ensures.hold in
    let old = c.args.me.now.hand in
    let walk = c.in-Some.walk in
    let on = at-shard c.args.shared.now old c.visit.new.hand c.shard-shard.result hold.before _ _ c.in-Ok.ensures.hand hold.was in
    program-read c.workers_keep_their_laws.ensures c.args.shared.now old c.visit.new.hand _ on c.args.me.now refl c.requires.worker
    none-quiet walk.request
    (visited-ends (length c.args.shared.now.gates.items) (length c.args.shared.now.shards.items) old c.visit.new.hand
    c.shard-shard.result walk.request walk.stamp walk.vertex c.in-Ok.read hold)
