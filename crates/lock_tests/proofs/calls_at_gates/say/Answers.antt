use Rattle.std.proofs.Common.{refl}
use Rattle.lock_tests.proofs.Going.{at-gate, clock-said}
use Rattle.lock_tests.proofs.Made.{none-quiet}
use Rattle.lock_tests.proofs.calls_at_gates.say.Goals as goal

pub returns-clause-worker : goal.returns-clause-worker
returns-clause-worker g c =
    let hold = c.say-clock.ensures.hold in
    let old = c.args.me.now.hand in
    let on = at-gate c.args.shared.now old c.say-clock.new.hand c.args.gate hold.0 _ c.say-clock.ensures.hand hold.1 in
    clock-said c.workers_keep_their_laws.ensures c.args.shared.now old c.say-clock.new.hand _ on c.args.me.now refl c.requires.worker
    none-quiet c.say-clock.result c.say-clock.ensures.known

pub returns-clause-number : goal.returns-clause-number
returns-clause-number g c = c.say-clock.ensures.hold.1.number
