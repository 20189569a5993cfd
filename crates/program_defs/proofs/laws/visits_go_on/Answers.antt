use Rattle.program_defs.proofs.GoingOn.{visits-go-on}
use Rattle.program_defs.proofs.laws.visits_go_on.Goals as goal

pub returns : goal.returns
returns c = visits-go-on
