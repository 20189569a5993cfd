use Rattle.program_defs.proofs.Onward.{next-of-visits}
use Rattle.program_defs.proofs.laws.visits_are_asked_for.Goals as goal

pub returns : goal.returns
returns c = next-of-visits
