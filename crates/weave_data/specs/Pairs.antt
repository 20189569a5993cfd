-- Maps under names, seen as lists of pairs in rising order of keys.
use Rattle.std.specs.Prelude.{ℕ, Bool, not, ◌&&◌, List, length, Option, is_some, nat_le}
use Rattle.std.specs.BTreeMap.{insert_entry, is_at}
use Rattle.std.specs.List.Sorted.{IsStrictlySortedBy}
use Rattle.std.specs.Map.{keys_of, lookup, remove_entry}
use Rattle.weave_data.specs.Names.{name_cmp}

module _ {X : Type 0} where
  -- the keys strictly rise, so none comes twice
  abbrev pub IsRising : List (List ℕ × X) → Type 0
  IsRising pairs = IsStrictlySortedBy name_cmp (keys_of pairs)

  -- what is at a key
  abbrev pub at_key : List ℕ → List (List ℕ × X) → Option X
  at_key key pairs = lookup (is_at (name_cmp key)) pairs

  -- whether something is at a key
  abbrev pub has : List ℕ → List (List ℕ × X) → Bool
  has key pairs = is_some (at_key key pairs)

  -- the pairs with this value at the key, new or in place of another one
  abbrev pub put : List ℕ → X → List (List ℕ × X) → List (List ℕ × X)
  put key value pairs = insert_entry name_cmp pairs key value

  -- the pairs without the key
  abbrev pub without_key : List ℕ → List (List ℕ × X) → List (List ℕ × X)
  without_key key pairs = remove_entry (is_at (name_cmp key)) pairs

  -- there is no room for the key: it is new, and the limit is reached
  abbrev pub is_full : ℕ → List ℕ → List (List ℕ × X) → Bool
  is_full limit key pairs = not (has key pairs) && nat_le limit (length pairs)
