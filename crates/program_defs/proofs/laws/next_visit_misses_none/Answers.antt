use Rattle.program_defs.proofs.NextVisit.{visits-of-reads}
use Rattle.program_defs.proofs.laws.next_visit_misses_none.Goals as goal

pub returns : goal.returns
returns c = visits-of-reads
