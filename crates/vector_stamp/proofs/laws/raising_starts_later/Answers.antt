use Rattle.std.proofs.Common.{inl}
use Rattle.vector_stamp.specs.Clocks.{first_clock}
use Rattle.vector_stamp.proofs.Orders.{before_write}
use Rattle.vector_stamp.proofs.laws.raising_starts_later.Goals as goal

pub returns : goal.returns
returns c =
    record {
      epochs = λ a b less. before_write a b (inl less);
      raised = λ clock epoch less. before_write clock (first_clock epoch) (inl less);
    }
