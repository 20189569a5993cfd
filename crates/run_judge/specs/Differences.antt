-- The first place at which a list isn't as another. No public contract cites it.
use Rattle.std.specs.Prelude.{◌≡◌, ℕ, ◌+◌, ◌≤◌, List, length, take, Option, Some, None, slice_get}

-- the lists are the same; or they are so before this place, from 1, and not at it
abbrev pub IsFirstDifference : List ℕ → List ℕ → Option ℕ → Type 0
IsFirstDifference wanted found None = found ≡ wanted
IsFirstDifference wanted found (Some place) =
    (k : ℕ) × (place ≡ k + 1) × (k ≤ length found) × (take k found ≡ take k wanted)
    × ¬ (slice_get found k ≡ slice_get wanted k)
