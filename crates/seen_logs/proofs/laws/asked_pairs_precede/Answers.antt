use Rattle.seen_logs.proofs.Onward.{asked-precedes}
use Rattle.seen_logs.proofs.laws.asked_pairs_precede.Goals as goal

pub returns : goal.returns
returns c = asked-precedes
