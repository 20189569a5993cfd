use Rattle.std.proofs.Common.{refl}
use Rattle.lock_tests.proofs.Going.{at-shard, only-hand}
use Rattle.lock_tests.proofs.Made.{none-quiet}
use Rattle.lock_tests.proofs.calls_at_shards.apply.Goals as goal

pub returns-clause-worker : goal.returns-clause-worker
returns-clause-worker g c =
    let hold = c.apply.ensures.hold in
    let old = c.args.me.now.hand in
    let on = at-shard c.args.shared.now old c.apply.new.hand c.args.shard hold.0 _ _ c.apply.ensures.hand hold.1 in
    only-hand c.workers_keep_their_laws.ensures c.args.shared.now old c.apply.new.hand _ on c.args.me.now refl c.requires.worker none-quiet

pub returns-clause-number : goal.returns-clause-number
returns-clause-number g c = c.apply.ensures.hold.1.number
