-- Rooms: empty lists with space, for what comes back when locks are closed. No public contract cites this.
use Rattle.std.specs.Prelude.{◌≡◌, ℕ, ◌<◌, ◌≤◌, List, [], ◌∷◌, ◌++◌, map, length, slice_index_or, Vec, vec_len, vec_capacity}
use Rattle.std.specs.Global.{Global}
use Rattle.weaver_locks.specs.declared.hand.Hand.{Hand}

module _ {A : Type 0} where
  -- an empty list with space for this many
  pub record IsRoom (count : ℕ) (room : Vec A Global) : Type 0 where
    pub none : room.items ≡ []
    pub space : count ≤ vec_capacity room

  -- at each place is a room for this many
  abbrev pub AreRooms : ℕ → List (Vec A Global) → Type 0
  AreRooms count rooms = (k : ℕ) (room : Vec A Global) → k < length rooms → IsRoom count (slice_index_or rooms k room)

  -- there is space for one more at each place. No public contract cites this.
  abbrev pub HaveSpace : List (Vec A Global) → Type 0
  HaveSpace rooms = (k : ℕ) (room : Vec A Global) → k < length rooms
      → vec_len (slice_index_or rooms k room) < vec_capacity (slice_index_or rooms k room)

  -- the list has one element more, and as much space as before. No public contract cites this.
  pub record HasTaken (element : A) (old new : Vec A Global) : Type 0 where
    pub items : new.items ≡ old.items ++ element ∷ []
    pub space : vec_capacity new ≡ vec_capacity old

  -- at each place the list there has taken the element there. No public contract cites this.
  abbrev pub AllTake : List A → List (Vec A Global) → List (Vec A Global) → Type 0
  AllTake elements old new = (k : ℕ) (element : A) (room : Vec A Global) → k < length old
      → HasTaken (slice_index_or elements k element) (slice_index_or old k room) (slice_index_or new k room)

  -- the list has what these hands have there, in their order, and space for this many. No public contract cites this.
  pub record HasGathered (part : Hand → A) (count : ℕ) (hands : List Hand) (room : Vec A Global) : Type 0 where
    pub items : room.items ≡ map part hands
    pub space : count ≤ vec_capacity room

  -- at each place is what these hands have at that place of a row. No public contract cites this.
  abbrev pub HaveGathered : (Hand → List A) → ℕ → List Hand → List (Vec A Global) → Type 0
  HaveGathered row count hands rooms = (k : ℕ) (part : A) (room : Vec A Global) → k < length rooms
      → HasGathered (λ hand. slice_index_or (row hand) k part) count hands (slice_index_or rooms k room)
