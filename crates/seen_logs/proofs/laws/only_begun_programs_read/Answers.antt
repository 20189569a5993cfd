use Rattle.seen_logs.proofs.NotBegun.{nothing-read}
use Rattle.seen_logs.proofs.laws.only_begun_programs_read.Goals as goal

pub returns : goal.returns
returns c = nothing-read
