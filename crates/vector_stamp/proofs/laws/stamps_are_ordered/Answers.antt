use Rattle.vector_stamp.proofs.Orders.{before-strict, before-trans, clocks_unordered-equal}
use Rattle.vector_stamp.proofs.laws.stamps_are_ordered.Goals as goal

pub returns : goal.returns
returns c =
    record {
      irreflexive = before-strict;
      asymmetric = λ a b g h. before-strict a (before-trans a b a g h);
      transitive = before-trans;
      equal_clocks = λ a b e. clocks_unordered-equal a.clock b.clock e;
    }
