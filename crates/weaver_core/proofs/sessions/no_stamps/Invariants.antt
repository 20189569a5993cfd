use Rattle.std.proofs.Common.{◌≡◌, replicate, None}
use Rattle.weaver_core.proofs.sessions.no_stamps.Given as goal

abbrev pub invariant-loop-request : goal.invariant-loop-request
invariant-loop-request l = l.stamps.items ≡ replicate l._request None
