-- Items of an update and of those before it, and later ones. Only proofs use this. No public contract cites this.
use Rattle.std.specs.Prelude.{◌≡◌, ◌≤◌, ◌<◌, ℕ, zero, suc, List, [], ◌∷◌}
use Rattle.std.specs.List.{AllByRecursion}
use Rattle.version_parts.specs.declared.track.Item.{Item}

module _ {X : Type 0} where
  -- all are of later updates
  abbrev pub AreNewer : ℕ → List (Item X) → Type 0
  AreNewer update items = AllByRecursion (λ (item : Item X). update < item.time.update) items

  -- that many of the first items are of the update or of those before it, and the others are of later ones
  abbrev pub IsSplit : ℕ → List (Item X) → ℕ → Type 0
  IsSplit update [] at = at ≡ zero
  IsSplit update (item ∷ rest) zero = AreNewer update (item ∷ rest)
  IsSplit update (item ∷ rest) (suc at) = (item.time.update ≤ update) × IsSplit update rest at
