use Rattle.shard_lock.proofs.Starting.{kept_at_start}
use Rattle.shard_lock.proofs.laws.notes_of_whole_logs_are_enough.Goals as goal

pub returns : goal.returns
returns c = kept_at_start c.the_crates_below_keep_their_laws.ensures
