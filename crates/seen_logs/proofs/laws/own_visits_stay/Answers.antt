use Rattle.seen_logs.proofs.Onward.{own-none, own-on}
use Rattle.seen_logs.proofs.laws.own_visits_stay.Goals as goal

pub returns : goal.returns
returns c = record { start = own-none; on = own-on }
