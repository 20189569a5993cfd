use Rattle.std.proofs.Common.{◌≡◌}
use Rattle.std.specs.List.{filter, range_with_len}
use Rattle.weave_phase.specs.Sessions.{has_request}
use Rattle.weave_phase.proofs.sessions.sessions_of.Given as goal

abbrev pub invariant-loop-session : goal.invariant-loop-session
invariant-loop-session l = l.sessions.items ≡ filter (has_request l.script l.from l.upto) (range_with_len 0 l.session)
