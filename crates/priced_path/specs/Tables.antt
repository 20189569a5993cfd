-- Tables of labels, and what the code of the search does to them. No public contract of a program names it.
use Rattle.std.specs.Prelude.{ℕ, ◌+◌, ◌*◌, ◌<◌, ◌≤◌, ◌≡◌, ◌⊎◌, List, Option, Some, None, length, slice_set, sum_by, Contains}
use Rattle.program_defs.specs.Labels.{label_in, row_in}
use Rattle.program_defs.specs.Prices.{most_price}
use Rattle.priced_path.specs.Searches.{IsSearch, IsLeftFrom}

-- open with this label
abbrev pub IsOpenIn : List (ℕ × ℕ) → ℕ → ℕ → Type 0
IsOpenIn entries v label = Contains entries (label, v)

-- the entries after one was put in
pub record IsEntryPut (entry : ℕ × ℕ) (old new : List (ℕ × ℕ)) : Type 0 where
  pub one : length new ≡ length old + 1
  pub kept : (x : ℕ × ℕ) → Contains old x → Contains new x
  pub there : Contains new entry

-- the entries after one was taken out
pub record IsEntryTaken (entry : ℕ × ℕ) (old new : List (ℕ × ℕ)) : Type 0 where
  pub one : length new + 1 ≡ length old
  pub kept : (x : ℕ × ℕ) → Contains old x → Contains new x ⊎ (x ≡ entry)

-- 1 for a label, 0 for none
abbrev pub one_if_labelled : Option ℕ → ℕ
one_if_labelled None = 0
one_if_labelled (Some label) = 1

-- no label is greater than the number of other labels times the greatest price
abbrev pub AreSmall : List (Option ℕ) → Type 0
AreSmall labels = (v label : ℕ) → label_in labels v ≡ Some label
    → label + most_price ≤ most_price * sum_by one_if_labelled labels

-- what may still fall: the labels, and for each vertex with none more than any label
abbrev pub height_of : ℕ → Option ℕ → ℕ
height_of vertices None = most_price * vertices + 1
height_of vertices (Some label) = label

abbrev pub height : List (Option ℕ) → ℕ
height labels = sum_by (height_of (length labels)) labels

-- the work that is left: an entry more is open for each label that fell
abbrev pub work_left : List (Option ℕ) → List (ℕ × ℕ) → ℕ
work_left labels entries = length entries + 2 * height labels

-- a search that has come so far: the edges that are left are these
pub record IsSearchOver (rows : List (List (ℕ × ℕ))) (start : ℕ) (labels : List (Option ℕ)) (entries : List (ℕ × ℕ))
    (IsLeft : ℕ → ℕ → Type 0) : Type 0 where
  pub found : IsSearch (row_in rows) start (label_in labels) (IsOpenIn entries) IsLeft
  pub all : length labels ≡ length rows
  pub small : AreSmall labels

-- an offer of a price to a vertex: its label is no greater, and nothing changes, or it gets this one and is open
abbrev pub IsOffered : ℕ → ℕ → List (Option ℕ) → List (Option ℕ) → List (ℕ × ℕ) → List (ℕ × ℕ) → Type 0
IsOffered v price old new before after =
    ((label : ℕ) × (label_in old v ≡ Some label) × (label ≤ price) × (new ≡ old) × (after ≡ before))
    ⊎ (((label : ℕ) → label_in old v ≡ Some label → price < label) × (new ≡ slice_set old v (Some price))
    × IsEntryPut (price, v) before after)

-- the edges of a vertex with this label were looked at up to a place
pub record IsLooking (rows : List (List (ℕ × ℕ))) (v label place : ℕ) (old new : List (Option ℕ))
    (before after : List (ℕ × ℕ)) : Type 0 where
  pub going : (start : ℕ) → IsSearchOver rows start old before (IsLeftFrom v 0)
      → IsSearchOver rows start new after (IsLeftFrom v place)
  pub labelled : label_in new v ≡ Some label
  pub less : work_left new after ≤ work_left old before
