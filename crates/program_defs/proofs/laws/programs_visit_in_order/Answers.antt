use Rattle.program_defs.proofs.Feeding.{next-in-turn, answer-at-end}
use Rattle.program_defs.proofs.laws.programs_visit_in_order.Goals as goal

pub returns : goal.returns
returns c = record { next = next-in-turn; outcome = answer-at-end }
