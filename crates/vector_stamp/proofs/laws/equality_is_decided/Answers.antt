use Rattle.std.proofs.Common.{subst, IsTrue}
use Rattle.vector_stamp.specs.Order.{same_clock, same_stamp}
use Rattle.vector_stamp.proofs.Orders.{same_clock-is, same_clock-refl, same_stamp-is, same_stamp-refl}
use Rattle.vector_stamp.proofs.Coherent.{same_id-from, same_id-is}
use Rattle.vector_stamp.proofs.laws.equality_is_decided.Goals as goal

pub returns : goal.returns
returns c =
    record {
      clocks = λ a b. (same_clock-is a b, λ e. subst (λ x. IsTrue (same_clock a x)) e (same_clock-refl a));
      stamps = λ a b. (same_stamp-is a b, λ e. subst (λ x. IsTrue (same_stamp a x)) e (same_stamp-refl a));
      ids = λ a b. (same_id-is a b, same_id-from a b);
    }
