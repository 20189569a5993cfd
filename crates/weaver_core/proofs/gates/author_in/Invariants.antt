use Rattle.std.proofs.Common.{◌≡◌, ◌≤◌, length, take}
use Rattle.weaver_core.specs.Finishing.{last_author}
use Rattle.weaver_core.proofs.gates.author_in.Given as goal

-- no entry from this place on begins the program
abbrev pub invariant-loop-place : goal.invariant-loop-place
invariant-loop-place l = record { within : l.place ≤ length l.log; rest : last_author l.request (take l.place l.log) ≡ last_author l.request l.log }

abbrev pub decreases-loop-place : goal.decreases-loop-place
decreases-loop-place l = l.place
