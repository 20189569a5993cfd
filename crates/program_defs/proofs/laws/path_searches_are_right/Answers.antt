use Rattle.program_defs.proofs.Answering.{next-is-next}
use Rattle.program_defs.proofs.Pathing.{same-walked}
use Rattle.program_defs.proofs.laws.path_searches_are_right.Goals as goal

pub returns : goal.returns
returns c = record { next = λ program walk reads h. next-is-next program walk.search reads h.searched; same = same-walked }
