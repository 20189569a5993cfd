use Rattle.shard_lock.proofs.Begins.{own-runs}
use Rattle.shard_lock.proofs.laws.own_programs_are_running.Goals as goal

pub returns : goal.returns
returns c = λ log author request stamp. own-runs author request stamp log
