use Rattle.std.proofs.Common.{◌≡◌, fold}
use Rattle.std.specs.Map.{values_of}
use Rattle.vector_stamp.specs.Clocks.{meet_of}
use Rattle.gatekeeper.proofs.running.low_mark.Given as goal

abbrev pub invariant-loop-clock : goal.invariant-loop-clock
invariant-loop-clock l = fold meet_of l.low l.clock-iterator ≡ fold meet_of l.stamp.clock (values_of l.running.entries)
