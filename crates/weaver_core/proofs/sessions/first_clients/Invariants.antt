use Rattle.weaver_core.specs.Sessions.{AreFirstSessions}
use Rattle.weaver_core.proofs.sessions.first_clients.Given as goal

abbrev pub invariant-loop-number : goal.invariant-loop-number
invariant-loop-number l = AreFirstSessions l.script l.number l.clients.items
