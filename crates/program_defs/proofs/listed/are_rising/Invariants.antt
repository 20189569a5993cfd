use Rattle.std.proofs.Common.{◌≡◌, ◌-◌, drop}
use Rattle.program_defs.specs.Rising.{is_rising}
use Rattle.program_defs.proofs.listed.are_rising.Given as goal

abbrev pub invariant-loop-place : goal.invariant-loop-place
invariant-loop-place l = is_rising (drop (l.place - 1) l.names) ≡ is_rising l.names
