use Rattle.std.proofs.Common.{◌<◌, ◌∙◌, ap, length, arith}
use Rattle.weaver_locks.specs.Hands.{hand_number}
use Rattle.lock_tests.specs.declared.hands.worker.Worker.{Worker}
use Rattle.lock_tests.specs.ReadyWorkers.{IsNumbered}
use Rattle.weaver_locks.proofs.Lists.{set-at}
use Rattle.lock_tests.proofs.hands.rows.play_row.Goals as goal

pub returns-clause-workers : goal.returns-clause-workers
returns-clause-workers g c =
    let low : c.args.who < length c.args.workers.now.items = omega (arith, c.if-who-len.false, c.len.ensures, c.args.workers.now.ok.0) in
    let was = c.requires.workers c.args.who c.index_mut.result.now low in
    set-at (IsNumbered c.args.shared.now) c.args.workers.now.items c.args.who c.play-said.new.me c.requires.workers
    record {
      ready = c.play-said.ensures.worker;
      number_is = c.play-said.ensures.number ∙ (ap (λ (w : Worker). hand_number w.hand) c.index_mut.ensures.value ∙ was.number_is);
    }
