use Rattle.program_defs.proofs.AnswersAgree.{answer-same}
use Rattle.program_defs.proofs.VisitsAgree.{list-same}
use Rattle.program_defs.proofs.laws.only_visits_matter.Goals as goal

pub returns : goal.returns
returns c = record { visits = list-same; answer = answer-same }
