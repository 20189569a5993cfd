use Rattle.std.proofs.Common.{◌≡◌, ◌++◌, ◌∷◌, drop}
use Rattle.std.specs.List.{flat_map}
use Rattle.machine_tests.specs.PairEnds.{ends}
use Rattle.machine_tests.proofs.test_judge.together.Given as goal

abbrev pub invariant-loop-pair : goal.invariant-loop-pair
invariant-loop-pair g l = l.all.items ++ flat_map ends (drop l.pair-index l.pairs) ≡ l.fn.program ∷ l.events ++ flat_map ends l.pairs
