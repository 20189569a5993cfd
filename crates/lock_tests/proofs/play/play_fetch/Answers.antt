use Rattle.lock_tests.proofs.play.play_fetch.Goals as goal

pub returns-clause-player : goal.returns-clause-player
returns-clause-player g c =
    let seen = rw c.expect.ensures at c.fetch-found.ensures.seen in
    record { worker = c.fetch-found.ensures.worker; step = seen c.in-Some.message c.in-Some.is }
