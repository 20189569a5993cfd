use Rattle.program_defs.proofs.Answering.{next-is-next, reach-answer, around-answer, same-search}
use Rattle.program_defs.proofs.laws.searches_are_right.Goals as goal

pub returns : goal.returns
returns c = record { next = next-is-next; reach = reach-answer; around = around-answer; same = same-search }
