use Rattle.weave_data.proofs.Adjacent.{RiseUntil}
use Rattle.weave_data.proofs.name_map.are_rising.Given as goal

abbrev pub invariant-loop-place : goal.invariant-loop-place
invariant-loop-place g l = RiseUntil l.place l.pairs
