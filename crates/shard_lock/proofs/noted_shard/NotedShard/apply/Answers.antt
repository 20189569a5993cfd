use Rattle.std.proofs.Common.{◌+◌}
use Rattle.weave_entries.specs.ShardReplay.{processed_count}
use Rattle.shard_lock.proofs.Adding.{heads_pass, kept_applied}
use Rattle.shard_lock.proofs.noted_shard.NotedShard.apply.Goals as goal

pub apply-applied-requires-clause-passes : goal.apply-applied-requires-clause-passes
apply-applied-requires-clause-passes c =
    heads_pass c.the_crates_below_keep_their_laws.ensures c.self.inside.shard c.self.inside.shards c.self.inside.notes c.self.invariant c.args.gate

pub invariant_of-self : goal.invariant_of-self
invariant_of-self c =
    let a = c.apply-applied.ensures in
    kept_applied c.the_crates_below_keep_their_laws.ensures c.self.inside.shard c.apply-applied.new.self c.self.inside.shards c.self.inside.notes
    c.self.invariant c.shows_rules.ensures c.args.author c.apply-applied.result c.args.gate
    (processed_count c.args.gate c.self.inside.shard.log + 1) a.entry a.unchanged
