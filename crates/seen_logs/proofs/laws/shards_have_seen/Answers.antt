use Rattle.seen_logs.proofs.Having.{of-gates, of-store}
use Rattle.seen_logs.proofs.laws.shards_have_seen.Goals as goal

pub returns : goal.returns
returns c =
    record {
      store = λ gates shards seen shard store legal refers. of-store gates shards seen shard legal refers (c.store_logs_have_passed.ensures seen.store store);
      sent = λ gates shards seen shard few logs legal refers. of-gates gates shards seen shard legal refers few logs;
    }
