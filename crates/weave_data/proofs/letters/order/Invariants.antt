use Rattle.std.proofs.Common.{◌≡◌, ◌*◌, drop}
use Rattle.std.specs.Ordering.{nat_cmp}
use Rattle.std.specs.Cmp.Lexicographic.{slice_cmp}
use Rattle.weave_data.proofs.letters.order.Given as goal

abbrev pub invariant-loop-step : goal.invariant-loop-step
invariant-loop-step l = slice_cmp nat_cmp l.letters l.others ≡ slice_cmp nat_cmp (drop (8 * l.step) l.letters) (drop (8 * l.step) l.others)
