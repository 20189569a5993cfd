use Rattle.weave_entries.proofs.ShardLogs.{arrived-keeps, arrived-new, arrived-others, arrived-still}
use Rattle.weave_entries.proofs.laws.arrivals_stay.Goals as goal

pub returns : goal.returns
returns c = record { stay = arrived-keeps; new = arrived-new; others = arrived-others; still = arrived-still }
