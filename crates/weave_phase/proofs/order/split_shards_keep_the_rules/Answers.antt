use Rattle.std.proofs.Common.{◌∙◌}
use Rattle.weave_phase.proofs.ShardLogs.{logs-keep-the-rules}
use Rattle.weave_phase.proofs.order.split_shards_keep_the_rules.Goals as goal

pub returns : goal.returns
returns c = λ split joined keep.
    let order = c.split_machines_are_in_order.ensures.order split joined in
    let counts = c.split_machines_are_in_order.ensures.counts split joined in
    logs-keep-the-rules split.script.gates (c.a_shard_log_goes_on.ensures.at_first split.script.gates) split.shards.items
    (λ k s low. order.shard_gates k s low ∙ counts.0) keep
