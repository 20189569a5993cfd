use Rattle.std.specs.Vec.Iter.{into_iter_items, into_iter_len}
use Rattle.std.proofs.Common.{◌≡◌, ◌≤◌, ℕ, length, map, take, drop, get_or}
use Rattle.oracle_chain.specs.Held.{replica_of, no_held, with_more}
use Rattle.oracle_chain.proofs.levelling.append_to_each.Given as goal

abbrev pub invariant-loop-number : goal.invariant-loop-number
invariant-loop-number l = record {
  seen : map replica_of l.replicas ≡ with_more (map replica_of l.initial.replicas) (take l.number-iterator.count l.fn.lacked.items);
  left : into_iter_items l.number-iterator.iter ≡ drop l.number-iterator.count l.fn.lacked.items;
  long : into_iter_len l.number-iterator.iter ≡ length (into_iter_items l.number-iterator.iter);
  as_before : (i : ℕ) → l.number-iterator.count ≤ i → get_or l.replicas i no_held ≡ get_or l.initial.replicas i no_held;
  within : l.number-iterator.count ≤ length l.fn.lacked.items;
}
