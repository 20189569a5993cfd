use Rattle.vector_stamp.proofs.Orders.{at_most_clock-refl, at_most-antisym, clock_at_most-trans, before-at_most, at_most-before}
use Rattle.vector_stamp.proofs.laws.clocks_are_ordered.Goals as goal

pub returns : goal.returns
returns c =
    record {
      reflexive = at_most_clock-refl;
      antisymmetric = at_most-antisym;
      transitive = clock_at_most-trans;
      before_at_most = before-at_most;
      at_most_before = at_most-before;
    }
