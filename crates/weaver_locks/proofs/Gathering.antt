-- Passes are put into rooms.
-- Used by `gather` and `put_row`.
use Rattle.std.proofs.Common.{◌≡◌, ℕ, ◌+◌, ◌<◌, List, [], ◌∷◌, ◌++◌, length, map, get_or, set, sym, ap, ◌∙◌, subst, arith, Vec, vec_len, vec_capacity}
use Rattle.std.specs.Global.{Global}
use Rattle.std.proofs.lemmas.List.{map_push, length-map, get_or-set_same, get_or-set_other}
use mathlib.Core.Logic.{dite}
use native.Mathlib.Decide.{ℕ_discrete}
use Rattle.lock_row.proofs.Lists.{one_of}
use Rattle.weaver_locks.specs.declared.hand.Hand.{Hand}
use Rattle.weaver_locks.specs.Rooms.{IsRoom, AreRooms, HaveSpace, HasTaken, AllTake, HasGathered, HaveGathered}

module _ {A : Type 0} (elements : List A) (old : List (Vec A Global)) where
  -- the first i lists have taken their elements
  abbrev pub TakenSoFar : List (Vec A Global) → ℕ → Type 0
  TakenSoFar now i = (k : ℕ) (element : A) (room : Vec A Global) → k < i
      → HasTaken (get_or elements k element) (get_or old k room) (get_or now k room)

  -- if the lists before this one have taken their elements, and it takes its own, one list more has
  pub taken_more : (now : List (Vec A Global)) (k : ℕ) (x : A) (v w : Vec A Global) → k < length now
      → ((d : A) → get_or elements k d ≡ x) → ((r : Vec A Global) → get_or old k r ≡ v) → HasTaken x v w
      → TakenSoFar now k → TakenSoFar (set now k w) (k + 1)
  taken_more now k x v w low at was one so_far j d r below = dite (ℕ_discrete j k)
      (λ e. subst (λ (i : ℕ). HasTaken (get_or elements i d) (get_or old i r) (get_or (set now k w) i r)) (sym e)
      (subst (λ (z : A × Vec A Global × Vec A Global). HasTaken z.0 z.1 z.2)
      (λ i. (sym (at d) i, sym (was r) i, sym (get_or-set_same now k w r low) i)) one))
      (λ ne. subst (HasTaken (get_or elements j d) (get_or old j r)) (sym (get_or-set_other now k j w r ne))
      (so_far j d r (omega (arith, ne, below))))

module _ {A : Type 0} (part : Hand → A) (count : ℕ) where
  -- an empty room has gathered from no hand yet
  pub gathered_none : (room : Vec A Global) → IsRoom count room → HasGathered part count [] room
  gathered_none room is = record { items = is.none; space = is.space }

  -- a room that takes what the next hand has there has gathered from this hand too
  pub gathered_more : (done : List Hand) (hand : Hand) (old new : Vec A Global) → HasTaken (part hand) old new
      → HasGathered part count done old → HasGathered part count (done ++ hand ∷ []) new
  gathered_more done hand old new taken was = record {
    items = taken.items ∙ (ap (λ (l : List A). l ++ part hand ∷ []) was.items ∙ sym (map_push part done hand));
    space = omega (arith, taken.space, was.space);
  }

  -- a room that has gathered from fewer hands than it is for has space for one more
  pub has_space : (done : List Hand) (room : Vec A Global) → length done < count → HasGathered part count done room
      → vec_len room < vec_capacity room
  has_space done room low was =
      let many : length room.items ≡ length (map part done) = ap (λ (l : List A). length l) was.items in
      omega (arith, low, many, was.space, room.ok.0, length-map done part)

module _ {A : Type 0} (row : Hand → List A) (count : ℕ) where
  -- empty rooms of a row have gathered from no hand yet
  pub row_gathered_none : (rooms : List (Vec A Global)) → AreRooms count rooms → HaveGathered row count [] rooms
  row_gathered_none rooms are k part room low = gathered_none (λ h. get_or (row h) k part) count (get_or rooms k room) (are k room low)

  -- if each room of a row takes what the next hand has at its place, they have gathered from this hand too
  pub row_gathered_more : (done : List Hand) (hand : Hand) (old new : List (Vec A Global)) → length new ≡ length old
      → AllTake (row hand) old new → HaveGathered row count done old → HaveGathered row count (done ++ hand ∷ []) new
  row_gathered_more done hand old new long taken was k part room low =
      let first : k < length old = omega (arith, low, long) in
      gathered_more (λ h. get_or (row h) k part) count done hand (get_or old k room) (get_or new k room) (taken k part room first) (was k part room first)

  -- if the rooms of a row have gathered from fewer hands than they are for, each has space for one more
  pub row_has_space : (done : List Hand) (hand : Hand) (rooms : List (Vec A Global)) → length done < count → length (row hand) ≡ length rooms
      → HaveGathered row count done rooms → HaveSpace rooms
  row_has_space done hand rooms few long was k room low =
      let part : A = one_of (row hand) k (omega (arith, low, long)) in
      has_space (λ h. get_or (row h) k part) count done (get_or rooms k room) few (was k part room low)
