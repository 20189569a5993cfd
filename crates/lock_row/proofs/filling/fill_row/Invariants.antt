use Rattle.std.specs.Vec.Iter.{into_iter_items, into_iter_len}
use Rattle.std.proofs.Common.{◌≡◌, ◌<◌, ◌+◌, ℕ, length, get_or, drop}
use Rattle.chronicle.specs.Locks.{IsFilled}
use Rattle.lock_row.specs.Openings.{AreOneRow}
use Rattle.lock_row.proofs.filling.fill_row.Given as goal

abbrev pub invariant-loop-machine : goal.invariant-loop-machine
invariant-loop-machine g l = record {
  left : into_iter_items l.machine-iterator ≡ drop l.place l.fn.machines.items;
  long : into_iter_len l.machine-iterator ≡ length (into_iter_items l.machine-iterator);
  vacants_left : into_iter_items l.vacants ≡ drop l.place l.fn.vacants.items;
  vacants_long : into_iter_len l.vacants ≡ length (into_iter_items l.vacants);
  count : l.place + into_iter_len l.machine-iterator ≡ length l.initial.locks.items;
  vacants_count : l.place + into_iter_len l.vacants ≡ length l.initial.locks.items;
  same : length l.locks.items ≡ length l.initial.locks.items;
  row : AreOneRow l.initial.locks.items l.locks.items;
  filled : (k : ℕ) (c : _) → k < l.place → IsFilled (get_or l.locks.items k c);
}
