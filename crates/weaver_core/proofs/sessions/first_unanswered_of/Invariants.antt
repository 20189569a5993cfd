use Rattle.std.proofs.Common.{◌≡◌, drop}
use Rattle.weaver_core.specs.Sessions.{least_unanswered}
use Rattle.weaver_core.proofs.sessions.first_unanswered_of.Given as goal

abbrev pub invariant-loop-client : goal.invariant-loop-client
invariant-loop-client l = least_unanswered l.first (drop l.client-index l.clients) ≡ least_unanswered l.requests l.clients
