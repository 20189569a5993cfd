use Rattle.std.proofs.Common.{refl}
use Rattle.lock_tests.proofs.Going.{at-gate, only-hand}
use Rattle.lock_tests.proofs.Made.{call-quiet, sent-quiet}
use Rattle.lock_tests.proofs.calls_at_gates.send.Goals as goal

pub returns-clause-worker : goal.returns-clause-worker
returns-clause-worker g c =
    let hold = c.send.ensures.hold in
    let old = c.args.me.now.hand in
    let on = at-gate c.args.shared.now old c.send.new.hand c.args.gate hold.0 _ c.send.ensures.hand hold.1.was in
    only-hand c.workers_keep_their_laws.ensures c.args.shared.now old c.send.new.hand _ on c.args.me.now refl c.requires.worker
    (call-quiet old _ c.send.result (λ answer. sent-quiet _ _))

pub returns-clause-number : goal.returns-clause-number
returns-clause-number g c = c.send.ensures.hold.1.was.number
