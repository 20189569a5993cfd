-- Changes of one key of a map, and how they are taken back.
use Rattle.std.specs.Prelude.{◌≡◌, ℕ, ◌+◌, ◌*◌, ◌/◌, ◌<◌, ◌≤◌, false, IsTrue, List, length, nat_le, if◌then◌else◌}
use Rattle.weave_data.specs.Pairs.{has, put, without_key}
use Rattle.weave_data.specs.declared.name.Name.{Name}
use Rattle.weave_data.specs.declared.change.Undo.{Undo}
use Rattle.weave_data.specs.declared.change.Undo.TheVariants.{Write, Remove, PutBack}

-- the places that a map of this many pairs has at least
abbrev pub places : ℕ → ℕ
places pairs = if nat_le pairs 16 then (pairs + 3) / 4 * 4 else (pairs + 63) / 64 * 64

module _ {X : Type 0} where
  -- the pairs with a change taken back
  abbrev pub undone_pairs : Undo X → List (Name × X) → List (Name × X)
  undone_pairs (Write key value) pairs = put key value pairs
  undone_pairs (Remove key) pairs = without_key key pairs
  undone_pairs (PutBack key value room) pairs = put key value pairs

  -- it can be taken back on these pairs without memory
  abbrev pub Fits : Undo X → List (Name × X) → Type 0
  Fits (Write key value) pairs = IsTrue (has key pairs)
  Fits (Remove key) pairs = Unit {0}
  Fits (PutBack key value room) pairs = (has key pairs ≡ false)
      × (places (length pairs) < places (length pairs + 1) → places (length pairs + 1) ≤ room)

  -- it takes back the change from `before` to `now`
  abbrev pub TakesBack : Undo X → List (Name × X) → List (Name × X) → Type 0
  TakesBack undo now before = Fits undo now × (undone_pairs undo now ≡ before)
