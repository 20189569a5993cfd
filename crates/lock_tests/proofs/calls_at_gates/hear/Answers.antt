use Rattle.std.proofs.Common.{refl}
use Rattle.lock_tests.proofs.Going.{at-gate, only-hand}
use Rattle.lock_tests.proofs.Made.{call-quiet, heard-quiet}
use Rattle.lock_tests.proofs.calls_at_gates.hear.Goals as goal

pub returns-clause-worker : goal.returns-clause-worker
returns-clause-worker g c =
    let hold = c.hear.ensures.hold in
    let old = c.args.me.now.hand in
    let on = at-gate c.args.shared.now old c.hear.new.hand c.args.gate hold.0 _ c.hear.ensures.hand hold.1 in
    only-hand c.workers_keep_their_laws.ensures c.args.shared.now old c.hear.new.hand _ on c.args.me.now refl c.requires.worker
    (call-quiet old _ c.hear.result (λ answer. heard-quiet _))

pub returns-clause-number : goal.returns-clause-number
returns-clause-number g c = c.hear.ensures.hold.1.number
