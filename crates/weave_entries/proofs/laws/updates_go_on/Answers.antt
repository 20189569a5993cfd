use Rattle.weave_entries.proofs.ShardLogs.{all_arrived, processed_are_few, count-applied, count-still, updates-applied, updates-still}
use Rattle.weave_entries.proofs.laws.updates_go_on.Goals as goal

pub returns : goal.returns
returns c =
    record {
      arrived = all_arrived;
      few = processed_are_few;
      count = count-applied;
      count_still = count-still;
      applied = λ gates log author gate number head v right is. updates-applied log author gate number head is (all_arrived gates log right) v;
      still = λ gates log entry v right none. updates-still log entry none (all_arrived gates log right) v;
    }
