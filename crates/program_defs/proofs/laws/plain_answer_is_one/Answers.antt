use Rattle.program_defs.proofs.OneAnswer.{one_answer}
use Rattle.program_defs.proofs.laws.plain_answer_is_one.Goals as goal

pub returns : goal.returns
returns c = one_answer
