use Rattle.std.proofs.Common.{refl}
use Rattle.weave_entries.specs.declared.gate_log.GateDeed.TheVariants.{BeganTx}
use Rattle.lock_tests.proofs.Began.{began, left-in-flight, unvisited-at-gate}
use Rattle.lock_tests.proofs.Options.{nothing-there}
use Rattle.lock_tests.proofs.CarryingOn.{ends-on}
use Rattle.lock_tests.proofs.Quiet.{none-begins, quiet-gate}
use Rattle.lock_tests.proofs.hands.transactions.begin.Goals as goal

pub begin_tx-requires-clause-last : goal.begin_tx-requires-clause-last
begin_tx-requires-clause-last g c = nothing-there _

pub returns-in-Ok-clause-worker : goal.returns-in-Ok-clause-worker
returns-in-Ok-clause-worker g c =
    let laws = c.workers_keep_their_laws.ensures in
    let shared = c.args.shared.now in
    let me = c.args.me.now in
    let new = c.begin_tx.new.hand in
    let hold = c.in-Ok.ensures.hold in
    let on = began laws shared me.hand new c.args.gate c.args.request c.in-Ok.stamp (BeganTx c.args.request c.in-Ok.stamp) refl hold.0
    c.requires.worker.is_hand c.requires.gate hold.1 in
    left-in-flight laws shared me.hand new me.next me.last me.walk c.args.request c.from.result c.in-Ok.stamp c.from.ensures
    c.requires.request on c.begin_tx.ensures.hand c.requires.worker (unvisited-at-gate me.hand new c.args.gate hold.0 _ hold.1)

pub returns-in-Ok-clause-number : goal.returns-in-Ok-clause-number
returns-in-Ok-clause-number g c = c.in-Ok.ensures.hold.1.number

pub returns-in-Err-clause-worker : goal.returns-in-Err-clause-worker
returns-in-Err-clause-worker g c =
    let laws = c.workers_keep_their_laws.ensures in
    let shared = c.args.shared.now in
    let me = c.args.me.now in
    let new = c.begin_tx.new.hand in
    let hold = c.in-Err.ensures.hold in
    ends-on laws shared me.hand new me.next me.last me.walk
    (quiet-gate laws shared me.hand new hold.1.number c.args.gate _ hold.1.made none-begins) c.begin_tx.ensures.hand c.requires.worker
    (unvisited-at-gate me.hand new c.args.gate hold.0 _ hold.1)

pub returns-in-Err-clause-number : goal.returns-in-Err-clause-number
returns-in-Err-clause-number g c = c.in-Err.ensures.hold.1.number
