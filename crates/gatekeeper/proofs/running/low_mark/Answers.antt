use Rattle.std.proofs.Common.{fold, sym, ap, ◌∙◌}
use Rattle.vector_stamp.specs.Clocks.{meet_of}
use Rattle.gatekeeper.proofs.Programs.{low_told}
use Rattle.gatekeeper.proofs.running.low_mark.Goals as goal

pub returns : goal.returns
returns c = λ programs holds. ap (fold meet_of c.loop-clock.low) (sym c.in-None.ensures.steps.0) ∙ c.loop-clock.invariant ∙ low_told (record { commutative = c.meets_commute.ensures.commutative; associative = c.meets_commute.ensures.associative }) _ programs c.args.stamp.now.clock c.values-clock-items.ensures.unique holds
