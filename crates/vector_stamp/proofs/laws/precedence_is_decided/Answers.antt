use Rattle.vector_stamp.proofs.Closure.{passes_test, test_precedes, precedes-closed, least}
use Rattle.vector_stamp.proofs.laws.precedence_is_decided.Goals as goal

pub returns : goal.returns
returns c =
    record {
      tested = λ pairs a b. (passes_test pairs a b, test_precedes pairs a b);
      closed = precedes-closed;
      least = least;
    }
