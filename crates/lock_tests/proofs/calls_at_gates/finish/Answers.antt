use Rattle.std.proofs.Common.{refl}
use Rattle.lock_tests.proofs.Going.{at-gate, finish-tried}
use Rattle.lock_tests.proofs.calls_at_gates.finish.Goals as goal

pub returns-clause-worker : goal.returns-clause-worker
returns-clause-worker g c =
    let hold = c.finish.ensures.hold in
    let old = c.args.me.now.hand in
    let on = at-gate c.args.shared.now old c.finish.new.hand c.args.gate hold.0 _ c.finish.ensures.hand hold.1 in
    finish-tried c.workers_keep_their_laws.ensures c.args.shared.now old c.finish.new.hand _ on c.args.me.now refl c.requires.worker
    c.in-Some.request c.finish.result c.begun_before.ensures refl
