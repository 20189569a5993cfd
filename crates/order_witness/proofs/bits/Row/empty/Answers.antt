use Rattle.std.proofs.Common.{◌≡◌, false, sym, subst, List, ℕ}
use Rattle.order_witness.specs.Bits.{has_bit}
use Rattle.order_witness.proofs.BitLemmas.{of_zeroes}
use Rattle.order_witness.proofs.bits.Row.empty.Goals as goal

pub returns-clause-empty : goal.returns-clause-empty
returns-clause-empty c = λ n. subst (λ (words : List ℕ). has_bit words n ≡ false) (sym c.in_ok-zeroes.ensures) (of_zeroes _ n)
