use Rattle.program_defs.proofs.ReadOrder.{next-in-any-order, answer-in-any-order}
use Rattle.program_defs.proofs.laws.order_of_reads_is_free.Goals as goal

pub returns : goal.returns
returns c = record { next = next-in-any-order; answer = answer-in-any-order }
