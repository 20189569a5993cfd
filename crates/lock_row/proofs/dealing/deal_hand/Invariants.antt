use Rattle.std.proofs.Common.{◌≡◌, ◌≤◌, ◌<◌, ◌+◌, ℕ, length, get_or, vec_len, vec_capacity}
use Rattle.chronicle.specs.Locks.{lock_of}
use Rattle.lock_row.specs.Hands.{AreFirst}
use Rattle.lock_row.proofs.Hands.{LeftSoFar, DealtSoFar}
use Rattle.lock_row.proofs.dealing.deal_hand.Given as goal

abbrev pub invariant-loop-place : goal.invariant-loop-place
invariant-loop-place g l = record {
  count : length l.passes.items ≡ length l.fn.locks;
  len : vec_len l.hand ≡ l.place;
  room : length l.fn.locks ≤ vec_capacity l.hand;
  dealt : DealtSoFar l.fn.locks l.fn.number l.hand.items l.place;
  left : LeftSoFar l.fn.locks l.fn.number l.passes.items l.place;
  ahead : (k : ℕ) (c : _) (ps : _) → l.place ≤ k → k < length l.fn.locks
      → AreFirst (l.fn.number + 1) (lock_of (get_or l.fn.locks k c)) (get_or l.passes.items k ps).items;
}
