use Rattle.std.proofs.Common.{◌≡◌, take}
use Rattle.program_defs.proofs.certificate.are_same.Given as goal

abbrev pub invariant-loop-place : goal.invariant-loop-place
invariant-loop-place l = take l.place l.vertices ≡ take l.place l.others
