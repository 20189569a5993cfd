use Rattle.std.specs.Vec.Iter.{into_iter_items, into_iter_len}
use Rattle.std.proofs.Common.{◌≡◌, ◌≤◌, ◌+◌, ◌++◌, length, map, vec_len, vec_capacity}
use Rattle.std.specs.List.{All}
use Rattle.shard_lock.specs.declared.notes.ShardNotes.{ShardNotes}
use Rattle.shard_lock.specs.Notes.{ShardIsKept}
use Rattle.weaver_locks.specs.Noted.{ShardNotesStart}
use Rattle.weaver_locks.specs.Opened.{IsNewHand}
use Rattle.weaver_locks.proofs.noting.note_shards.Given as goal

abbrev pub invariant-loop-shard : goal.invariant-loop-shard
invariant-loop-shard l = record {
  hand : IsNewHand l.fn.locks 0 l.hand;
  all : map (λ n. n.shard) l.noted.items ++ map (λ b. b.shard) (into_iter_items l.shard-iterator) ≡ map (λ b. b.shard) l.fn.bare.items;
  kept : All (λ b. (notes : ShardNotes) → ShardNotesStart l.fn.locks notes → ShardIsKept b.shard l.fn.count notes) (into_iter_items l.shard-iterator);
  count : All (λ n. n.shards ≡ l.fn.count) l.noted.items;
  notes : All (λ n. ShardNotesStart l.fn.locks n.notes) l.noted.items;
  long : into_iter_len l.shard-iterator ≡ length (into_iter_items l.shard-iterator);
  space : vec_len l.noted + into_iter_len l.shard-iterator ≤ vec_capacity l.noted;
}
