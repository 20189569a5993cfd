-- The least vertex before each one, over numbered vertices. No public contract of a program names it.
use Rattle.std.specs.Prelude.{ℕ, ◌+◌, ◌<◌, ◌≤◌, ◌≡◌, ◌⊎◌, List, [], ◌∷◌, map, Option, Some, None, slice_get, slice_set, slice_index_or}
use Rattle.weave_data.specs.declared.name.Name.{Name}
use Rattle.program_defs.specs.Labels.{label_in, row_in}

module _ (rows : List (List (ℕ × ℕ))) (labels : List (Option ℕ)) where
  -- the edge of the first vertex at this place meets the label of the second
  pub record MeetsAt (u place v : ℕ) : Type 0 where
    pub start : ℕ
    pub price : ℕ
    pub edge : slice_get (row_in rows u) place ≡ Some (v, price)
    pub labelled : label_in labels u ≡ Some start
    pub target : label_in labels v ≡ Some (start + price)

  -- of the edges that were looked at: each parent meets its vertex's label, none that meets it is before the parent,
  -- and no parent is after this vertex
  pub record AreParents (IsSeen : ℕ → ℕ → Type 0) (last : ℕ) (parents : List (Option ℕ)) : Type 0 where
    pub meets : (v u : ℕ) → label_in parents v ≡ Some u → (place : ℕ) × MeetsAt u place v
    pub least : (u place v : ℕ) → IsSeen u place → MeetsAt u place v
        → (w : ℕ) × (label_in parents v ≡ Some w) × (w ≤ u)
    pub before : (v u : ℕ) → label_in parents v ≡ Some u → u ≤ last

-- an edge to v was looked at: it doesn't meet, or v has a parent, or this one becomes it
abbrev pub IsNoted : List (Option ℕ) → ℕ → ℕ → ℕ → ℕ → List (Option ℕ) → List (Option ℕ) → Type 0
IsNoted labels u start v price old new =
    (((label_in labels v ≡ Some (start + price)) → ⊥) × (new ≡ old))
    ⊎ (((w : ℕ) × (label_in old v ≡ Some w) × (new ≡ old))
    ⊎ ((label_in labels v ≡ Some (start + price)) × (label_in old v ≡ None) × (new ≡ slice_set old v (Some u))))

-- the vertices before this one were looked at, and of this one the edges before this place
abbrev pub IsSeenTo : ℕ → ℕ → ℕ → ℕ → Type 0
IsSeenTo u place x k = (x < u) ⊎ ((x ≡ u) × (k < place))

-- the vertices before this one were looked at
abbrev pub IsSeenBefore : ℕ → ℕ → ℕ → Type 0
IsSeenBefore u x k = x < u

-- a vertex with a parent has a label, and the parent a lower one
abbrev pub DoParentsFall : List (Option ℕ) → List (Option ℕ) → Type 0
DoParentsFall labels parents = (v u : ℕ) → label_in parents v ≡ Some u
    → (d e : ℕ) × (label_in labels v ≡ Some d) × (label_in labels u ≡ Some e) × (e < d)

-- the parents lead back from this vertex over those before it, the last first, to one without a parent
abbrev pub LeadsBack : List (Option ℕ) → ℕ → List ℕ → Type 0
LeadsBack parents v [] = label_in parents v ≡ None
LeadsBack parents v (u ∷ before) = (label_in parents v ≡ Some u) × LeadsBack parents u before

-- the names of vertices with these numbers
abbrev pub names_at : List Name → List ℕ → List Name
names_at vertices places = map (λ place. slice_index_or vertices place []) places
