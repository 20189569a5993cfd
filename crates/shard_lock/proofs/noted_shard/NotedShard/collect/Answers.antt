use Rattle.weave_entries.specs.ShardReplay.{bound_of}
use Rattle.shard_lock.proofs.Adding.{kept_collected}
use Rattle.shard_lock.proofs.noted_shard.NotedShard.collect.Goals as goal

pub invariant_of-self : goal.invariant_of-self
invariant_of-self c =
    let a = c.collect-collected.ensures in
    kept_collected c.the_crates_below_keep_their_laws.ensures c.self.inside.shard c.collect-collected.new.self c.self.inside.shards
    c.self.inside.notes c.self.invariant c.shows_rules.ensures c.args.author c.collect-collected.result
    (bound_of c.self.inside.shard.gates c.self.inside.shard.log) a.entry a.unchanged
