use Rattle.std.proofs.Common.{subst, sym}
use Rattle.lock_tests.specs.ReadyWorkers.{AreWorkers}
use Rattle.lock_tests.proofs.Opening.{new-workers}
use Rattle.lock_tests.proofs.hands.bench.open.Goals as goal

pub returns-clause-workers : goal.returns-clause-workers
returns-clause-workers g c =
    let shared = c.new_locks-shared.result.0 in
    let dealt = c.new_locks-shared.result.1 in
    subst (AreWorkers shared) (sym c.workers_of-workers.ensures)
    (new-workers c.workers_keep_their_laws.ensures shared dealt.items c.new_locks-shared.ensures.hands)
