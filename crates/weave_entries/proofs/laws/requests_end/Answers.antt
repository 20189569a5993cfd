use Rattle.weave_entries.proofs.Once.{ends_what_it_began, ends_each_once}
use Rattle.weave_entries.proofs.laws.requests_end.Goals as goal

pub returns : goal.returns
returns c = record { begun = ends_what_it_began; once = ends_each_once }
