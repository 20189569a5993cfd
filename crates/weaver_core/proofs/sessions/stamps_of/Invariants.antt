use Rattle.std.proofs.Common.{◌≡◌, drop, map, replicate, None}
use Rattle.weaver_core.specs.Sessions.{log_of_client}
use Rattle.weaver_core.specs.Noting.{all_noted}
use Rattle.weaver_core.proofs.sessions.stamps_of.Given as goal

abbrev pub invariant-loop-client : goal.invariant-loop-client
invariant-loop-client l = all_noted l.stamps.items (map log_of_client (drop l.client-index l.clients)) ≡ all_noted (replicate l.requests None) (map log_of_client l.clients)
