use Rattle.weaver_workers.specs.Turning.{stand, GoesInTurns}
use Rattle.weaver_workers.proofs.client_work.go_session.Given as goal

abbrev pub invariant-loop : goal.invariant-loop
invariant-loop g l =
    GoesInTurns l.fn.shared l.fn.script l.fn.number l.fn.upto (stand l.fn.hand l.fn.client) (stand l.hand l.client) l.busy
