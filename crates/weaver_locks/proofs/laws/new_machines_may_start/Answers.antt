use Rattle.weaver_locks.proofs.Fresh.{may-start}
use Rattle.weaver_locks.proofs.laws.new_machines_may_start.Goals as goal

pub returns : goal.returns
returns c = λ gates shards some few some_shard few_shards order no_gate no_shard.
    may-start c.more_is_seen.ensures.itself c.a_log_goes_on.ensures.at_first c.a_store_log_goes_on.ensures.at_first
    c.an_oracle_log_goes_on.ensures.at_first c.a_shard_log_goes_on.ensures.at_first gates shards no_gate no_shard
    some few some_shard few_shards order
