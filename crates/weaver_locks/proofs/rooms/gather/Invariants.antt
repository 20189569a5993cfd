use Rattle.std.specs.Vec.Iter.{into_iter_items, into_iter_len}
use Rattle.std.proofs.Common.{◌≡◌, ◌++◌, List, length, vec_len}
use Rattle.weaver_locks.specs.declared.hand.Hand.{Hand}
use Rattle.weaver_locks.specs.Rooms.{HasGathered, HaveGathered}
use Rattle.weaver_locks.proofs.rooms.gather.Given as goal

abbrev pub invariant-loop-hand : goal.invariant-loop-hand
invariant-loop-hand l = record {
  done : List Hand;
  hands : l.fn.hands.items ≡ done ++ into_iter_items l.hand-iterator;
  long : into_iter_len l.hand-iterator ≡ length (into_iter_items l.hand-iterator);
  gate_count : length l.rooms.gates.items ≡ length l.initial.rooms.gates.items;
  shard_count : length l.rooms.shards.items ≡ length l.initial.rooms.shards.items;
  gates : HaveGathered (λ hand. hand.gates.items) (vec_len l.fn.hands) done l.rooms.gates.items;
  store : HasGathered (λ hand. hand.store) (vec_len l.fn.hands) done l.rooms.store;
  oracle : HasGathered (λ hand. hand.oracle) (vec_len l.fn.hands) done l.rooms.oracle;
  shards : HaveGathered (λ hand. hand.shards.items) (vec_len l.fn.hands) done l.rooms.shards.items;
}
