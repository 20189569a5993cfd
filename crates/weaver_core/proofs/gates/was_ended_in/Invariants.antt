use Rattle.std.proofs.Common.{◌≡◌, ◌≤◌, length, take}
use Rattle.weaver_core.specs.Restarting.{was_ended}
use Rattle.weaver_core.proofs.gates.was_ended_in.Given as goal

-- no entry from this place on ends the request
abbrev pub invariant-loop-place : goal.invariant-loop-place
invariant-loop-place l = record { within : l.place ≤ length l.log; rest : was_ended l.request (take l.place l.log) ≡ was_ended l.request l.log }

abbrev pub decreases-loop-place : goal.decreases-loop-place
decreases-loop-place l = l.place
