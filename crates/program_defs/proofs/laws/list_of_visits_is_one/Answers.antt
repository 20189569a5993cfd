use Rattle.program_defs.proofs.OneList.{one_list}
use Rattle.program_defs.proofs.laws.list_of_visits_is_one.Goals as goal

pub returns : goal.returns
returns c = one_list
