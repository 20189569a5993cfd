use Rattle.std.proofs.Common.{List, ap}
use Rattle.weave_entries.specs.declared.shard_log.ShardEntry.{ShardEntry}
use Rattle.weaver_core.proofs.shards.Shards.new.Goals as goal

pub invariant_of-result : goal.invariant_of-result
invariant_of-result c = c.in_ok-made.ensures.in_order

pub returns : goal.returns
returns c = ap (λ (logs : List (List ShardEntry)). record { gates = c.args.gates; logs = logs }) c.in_ok-made.ensures.logs
