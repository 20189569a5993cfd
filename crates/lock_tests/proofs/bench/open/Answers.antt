use Rattle.std.proofs.Common.{subst, sym}
use Rattle.lock_tests.specs.Workers.{ArePlayers}
use Rattle.lock_tests.proofs.Opening.{new-players}
use Rattle.lock_tests.proofs.bench.open.Goals as goal

pub returns-clause-players : goal.returns-clause-players
returns-clause-players g c =
    let shared = c.new_locks-shared.result.0 in
    let dealt = c.new_locks-shared.result.1 in
    subst (ArePlayers shared) (sym c.players_of-players.ensures) (new-players shared dealt.items c.new_locks-shared.ensures.hands)
