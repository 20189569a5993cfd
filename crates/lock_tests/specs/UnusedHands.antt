-- A hand that comes with new locks. For tests: no public contract cites this.
use Rattle.std.specs.Prelude.{◌≡◌, ◌<◌, ℕ, List, [], length, slice_index_or}
use Rattle.weave_account.specs.Account.{gate_log, reads_of}
use Rattle.weaver_locks.specs.declared.hand.Hand.{Hand}
use Rattle.weaver_locks.specs.declared.shared.Shared.{Shared}
use Rattle.weaver_locks.specs.Hands.{hand_number, seen_by, IsHand}

-- a hand of these locks with this number, which has seen no entry at gatekeepers and no read
pub record IsUnusedHand (shared : Shared) (number : ℕ) (hand : Hand) : Type 0 where
  pub is_hand : IsHand shared hand
  pub number_is : hand_number hand ≡ number
  pub no_entry : (home : ℕ) → gate_log (seen_by hand) home ≡ []
  pub no_read : (request : ℕ) → reads_of (seen_by hand) request ≡ []

-- the hands are unused, with the numbers from 0
abbrev pub AreUnusedHands : Shared → List Hand → Type 0
AreUnusedHands shared hands =
    (k : ℕ) (h : Hand) → k < length hands → IsUnusedHand shared k (slice_index_or hands k h)
