-- Places in pairs in rising order of keys. Only proofs use this. No public contract cites this.
use Rattle.std.specs.Prelude.{◌≡◌, ℕ, zero, suc, false, T, List, [], ◌∷◌}
use Rattle.std.specs.declared.cmp.Ordering.TheVariants.{Less, Greater}
use Rattle.weave_data.specs.Names.{name_cmp}

module _ {X : Type 0} where
  -- the pair at this place has the key, and those before it have lower ones
  abbrev pub IsAt : List ℕ → List (List ℕ × X) → ℕ → Type 0
  IsAt key [] at = T false
  IsAt key (pair ∷ rest) zero = key ≡ pair.0
  IsAt key (pair ∷ rest) (suc at) = (name_cmp key pair.0 ≡ Greater) × IsAt key rest at

  -- the key would go to this place: it is above the keys before it, and below the one there
  abbrev pub IsGap : List ℕ → List (List ℕ × X) → ℕ → Type 0
  IsGap key [] at = at ≡ zero
  IsGap key (pair ∷ rest) zero = name_cmp key pair.0 ≡ Less
  IsGap key (pair ∷ rest) (suc at) = (name_cmp key pair.0 ≡ Greater) × IsGap key rest at
