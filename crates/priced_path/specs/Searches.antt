-- A search for least prices over numbered vertices, as far as it has come. No public contract names it.
use Rattle.std.specs.Prelude.{ℕ, ◌+◌, ◌≡◌, ◌≤◌, ◌⊎◌, List, Option, Some, slice_get}
use Rattle.program_defs.specs.Labels.{IsLabelledWithin}

-- no edge is left
abbrev pub IsNoneLeft : ℕ → ℕ → Type 0
IsNoneLeft u k = ⊥

-- the edges of this vertex from this place on are left
abbrev pub IsLeftFrom : ℕ → ℕ → ℕ → ℕ → Type 0
IsLeftFrom x i u k = (u ≡ x) × (i ≤ k)

module _ (edges_at : ℕ → List (ℕ × ℕ)) (start : ℕ) where
  -- a passing edge to the vertex from one with a label, whose label and price make at most this
  pub record HasParent (label : ℕ → Option ℕ) (v most : ℕ) : Type 0 where
    pub before : ℕ
    pub at : ℕ
    pub place : ℕ
    pub price : ℕ
    pub labelled : label before ≡ Some at
    pub edge : slice_get (edges_at before) place ≡ Some (v, price)
    pub sum : at + price ≤ most

  -- labels are kept in a table; a vertex whose edges are still to be looked at is open with its label, or it is the
  -- one at hand, of which some edges are left
  pub record IsSearch (label : ℕ → Option ℕ) (IsOpen : ℕ → ℕ → Type 0) (IsLeft : ℕ → ℕ → Type 0) : Type 0 where
    pub begin : label start ≡ Some 0
    pub parent : (v d : ℕ) → label v ≡ Some d → (v ≡ start → ⊥) → HasParent label v d
    pub done : (u d k w p : ℕ) → label u ≡ Some d → slice_get (edges_at u) k ≡ Some (w, p)
        → IsOpen u d ⊎ (IsLabelledWithin label w (d + p) ⊎ IsLeft u k)
