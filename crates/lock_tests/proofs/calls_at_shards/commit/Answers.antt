use Rattle.std.proofs.Common.{refl}
use Rattle.lock_tests.proofs.Going.{at-store, only-hand}
use Rattle.lock_tests.proofs.Made.{none-quiet}
use Rattle.lock_tests.proofs.Sending.{may-send-if}
use Rattle.lock_tests.proofs.calls_at_shards.commit.Goals as goal

pub commit-requires-clause-begun : goal.commit-requires-clause-begun
commit-requires-clause-begun g c = c.requires.flight.may.begun

pub commit-requires-clause-new : goal.commit-requires-clause-new
commit-requires-clause-new g c = c.requires.flight.may.new

pub returns-clause-worker : goal.returns-clause-worker
returns-clause-worker g c =
    let was = c.commit.ensures.hold.was in
    let old = c.args.me.now.hand in
    let on = at-store c.args.shared.now old c.commit.new.hand _ _ _ _ c.commit.ensures.hand was in
    only-hand c.workers_keep_their_laws.ensures c.args.shared.now old c.commit.new.hand _ on c.args.me.now refl c.requires.worker none-quiet

pub returns-clause-number : goal.returns-clause-number
returns-clause-number g c = c.commit.ensures.hold.was.number

pub returns-clause-send : goal.returns-clause-send
returns-clause-send g c =
    may-send-if c.args.shared.now c.args.me.now.hand c.commit.new.hand c.args.flight.gate c.args.flight.request c.args.flight.stamp
    c.args.ops.now c.commit.result c.calls_follow_each_other.ensures.send c.requires.worker.hand c.commit.ensures.hand
    c.requires.flight.flies c.commit.ensures.hold
