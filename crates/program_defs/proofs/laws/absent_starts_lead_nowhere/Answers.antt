use Rattle.program_defs.proofs.Proving.{nothing-from-absent}
use Rattle.program_defs.proofs.laws.absent_starts_lead_nowhere.Goals as goal

pub returns : goal.returns
returns c = nothing-from-absent
