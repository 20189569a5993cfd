use Rattle.std.proofs.Common.{refl}
use Rattle.lock_tests.proofs.Going.{at-gate, only-hand, tx-begun}
use Rattle.lock_tests.proofs.Made.{none-quiet}
use Rattle.lock_tests.proofs.calls_at_gates.begin_tx.Goals as goal

pub returns-in-Err-clause-worker : goal.returns-in-Err-clause-worker
returns-in-Err-clause-worker g c =
    let hold = c.in-Err.ensures.hold in
    let old = c.args.me.now.hand in
    let on = at-gate c.args.shared.now old c.begin_tx.new.hand c.args.gate hold.0 _ c.in-Err.ensures.hand hold.1 in
    only-hand c.workers_keep_their_laws.ensures c.args.shared.now old c.begin_tx.new.hand _ on c.args.me.now refl c.requires.worker none-quiet

pub returns-clause-worker : goal.returns-clause-worker
returns-clause-worker g c =
    let hold = c.in-Ok.ensures.hold in
    let old = c.args.me.now.hand in
    let on = at-gate c.args.shared.now old c.begin_tx.new.hand c.args.gate hold.0 _ c.in-Ok.ensures.hand hold.1 in
    tx-begun c.workers_keep_their_laws.ensures c.args.shared.now old c.begin_tx.new.hand _ on c.args.me.now refl c.requires.worker
    c.args.request c.from.result c.in-Ok.stamp c.from.ensures c.requires.request refl c.in-Ok.ensures.known

pub returns-clause-judge : goal.returns-clause-judge
returns-clause-judge g c =
    let hold = c.in-Ok.ensures.hold in
    c.calls_follow_each_other.ensures.judge c.args.shared.now c.args.me.now.hand c.begin_tx.new.hand c.args.gate c.args.request
    c.in-Ok.stamp hold.0 c.requires.worker.hand c.in-Ok.ensures.hand (c.requires.worker.begun c.args.request c.requires.request) hold.1
