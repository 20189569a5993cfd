use Rattle.order_witness.proofs.BitLemmas.{of_set}
use Rattle.order_witness.proofs.bits.set_bit.Goals as goal

pub returns-clause-after : goal.returns-clause-after
returns-clause-after c = λ n. of_set c.args.words.now c.args.number n c.requires
