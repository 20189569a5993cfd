use Rattle.std.specs.Vec.Iter.{into_iter_items, into_iter_len}
use Rattle.std.proofs.Common.{◌≡◌, ◌≤◌, ◌+◌, ℕ, length, get_or, drop, vec_len, vec_capacity}
use Rattle.lock_row.specs.Rows.{names_of}
use Rattle.lock_row.proofs.Openings.{OpenedSoFar}
use Rattle.lock_row.proofs.opening.open_row.Given as goal

abbrev pub invariant-loop-part : goal.invariant-loop-part
invariant-loop-part g l = record {
  left : into_iter_items l.part-iterator ≡ drop l.place l.fn.parts.items;
  long : into_iter_len l.part-iterator ≡ length (into_iter_items l.part-iterator);
  count : l.place + into_iter_len l.part-iterator ≡ length l.initial.locks.items;
  same : length l.locks.items ≡ length l.initial.locks.items;
  names : names_of l.locks.items ≡ names_of l.initial.locks.items;
  ahead : (j : ℕ) (c : _) → l.place ≤ j → get_or l.locks.items j c ≡ get_or l.initial.locks.items j c;
  passes : vec_len l.passes ≡ l.place;
  vacants : vec_len l.vacants ≡ l.place;
  passes_room : length l.initial.locks.items ≤ vec_capacity l.passes;
  vacants_room : length l.initial.locks.items ≤ vec_capacity l.vacants;
  opened : OpenedSoFar (λ b. g.B.Bare.frame b l.fn.context (names_of l.initial.locks.items)) g.B.Bare.log l.initial.locks.items l.fn.machines
      l.locks.items l.passes.items l.vacants.items l.place;
}
