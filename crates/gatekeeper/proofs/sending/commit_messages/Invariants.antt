use Rattle.std.specs.Vec.Iter.{into_iter_items, into_iter_len}
use Rattle.std.proofs.Common.{◌≡◌, ◌≤◌, length, map, filter, drop}
use Rattle.std.specs.List.{list_any, range_with_len}
use Rattle.weave_entries.specs.Sending.{is_kept_at}
use Rattle.gatekeeper.specs.Messages.{made_for}
use Rattle.gatekeeper.specs.Parts.{parts_by_shard}
use Rattle.gatekeeper.proofs.sending.commit_messages.Given as goal

abbrev pub invariant-loop-shard : goal.invariant-loop-shard
invariant-loop-shard l = record {
  made : l.messages.items ≡ map (made_for l.channels l.shards l.flight l.low l.ops l.counts) (filter (λ shard. list_any (is_kept_at l.shards shard) l.counts) (range_with_len 0 l.shard-iterator.count));
  left : into_iter_items l.shard-iterator.iter ≡ drop l.shard-iterator.count (parts_by_shard l.shards l.ops l.counts);
  long : into_iter_len l.shard-iterator.iter ≡ length (into_iter_items l.shard-iterator.iter);
  within : l.shard-iterator.count ≤ l.shards;
}
