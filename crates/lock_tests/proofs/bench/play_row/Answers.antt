use Rattle.std.proofs.Common.{◌<◌, ◌∙◌, ap, length, arith}
use Rattle.weaver_locks.specs.Hands.{hand_number}
use Rattle.lock_tests.specs.declared.worker.Player.{Player}
use Rattle.lock_tests.specs.Workers.{IsNumberedPlayer}
use Rattle.weaver_locks.proofs.Lists.{set-at}
use Rattle.lock_tests.proofs.bench.play_row.Goals as goal

pub returns-clause-players : goal.returns-clause-players
returns-clause-players g c =
    let low : c.args.who < length c.args.players.now.items = omega (arith, c.if-who-len.false, c.len.ensures, c.args.players.now.ok.0) in
    let was = c.requires.players c.args.who c.index_mut.result.now low in
    set-at (IsNumberedPlayer c.args.shared.now) c.args.players.now.items c.args.who c.play-said.new.player c.requires.players
    record {
      is = c.play-said.ensures.player;
      number_is = c.play-said.ensures.number ∙ (ap (λ (p : Player). hand_number p.worker.hand) c.index_mut.ensures.value ∙ was.number_is);
    }
