use Rattle.program_defs.proofs.Listing.{has-list}
use Rattle.program_defs.proofs.laws.finite_graphs_have_visits.Goals as goal

pub returns : goal.returns
returns c = has-list
