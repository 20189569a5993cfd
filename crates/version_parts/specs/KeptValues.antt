-- Maps under names of which each value is changed or goes.
use Rattle.std.specs.Prelude.{List, [], ◌∷◌, Option, Some, None}
use Rattle.weave_data.specs.declared.name.Name.{Name}
use Rattle.weave_data.specs.Pairs.{put, without_key}

module _ {B : Type 0} where
  -- a pair before others, if there is a value
  abbrev pub with_value : Name → Option B → List (Name × B) → List (Name × B)
  with_value key None rest = rest
  with_value key (Some value) rest = (key, value) ∷ rest

  -- the pairs with this value at a key, or without the key. No public contract cites this.
  abbrev pub with_change : Name → Option B → List (Name × B) → List (Name × B)
  with_change key None pairs = without_key key pairs
  with_change key (Some value) pairs = put key value pairs

module _ {A B : Type 0} where
  -- what a function makes of each value; a key goes if it makes none
  abbrev pub kept_values : (A → Option B) → List (Name × A) → List (Name × B)
  kept_values f [] = []
  kept_values f (pair ∷ rest) = with_value pair.0 (f pair.1) (kept_values f rest)
