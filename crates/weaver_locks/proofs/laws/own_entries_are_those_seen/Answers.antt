use Rattle.weaver_locks.proofs.OwnLogs.{made_of_seen}
use Rattle.weaver_locks.proofs.laws.own_entries_are_those_seen.Goals as goal

pub returns : goal.returns
returns c = made_of_seen
