-- The hands of those who have one hand each, with the numbers from 0, are all the hands.
-- Used by `close`.
use Rattle.std.proofs.Common.{◌≡◌, ℕ, ◌<◌, List, length, map, get_or, sym, subst, Contains}
use Rattle.std.specs.List.{All}
use Rattle.weaver_locks.specs.declared.hand.Hand.{Hand}
use Rattle.weaver_locks.specs.declared.shared.Shared.{Shared}
use Rattle.weaver_locks.specs.Hands.{hand_number, IsHand}
use Rattle.weaver_locks.proofs.Lists.{all-images, has-images, map_twice}

module _ {A : Type 0} (hand_of : A → Hand) (shared : Shared) (owners : List A)
    (are : (k : ℕ) (x : A) → k < length owners → IsHand shared (hand_of (get_or owners k x)) × (hand_number (hand_of (get_or owners k x)) ≡ k)) where
  -- the hand of each owner is a hand of these locks
  pub each-hand : All (IsHand shared) (map hand_of owners)
  each-hand = all-images (IsHand shared) hand_of owners (λ k x low. (are k x low).0)

  -- each number below the number of owners is that of an owner's hand
  pub all-hands : (n : ℕ) → n < length owners → Contains (map hand_number (map hand_of owners)) n
  all-hands n low = subst (λ (l : List ℕ). Contains l n) (sym (map_twice hand_number hand_of owners))
      (has-images (λ (x : A). hand_number (hand_of x)) owners (λ k x there. (are k x there).1) n low)
