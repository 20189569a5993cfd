-- What the calls of a disk do to the bytes that a read gives, and to the images that a crash may leave.
use Rattle.std.specs.Prelude.{◌≡◌, ◌⊎◌, ℕ, ◌+◌, ◌-◌, ◌≤◌, min, max, List, ◌++◌, length, take, drop, replicate, IfSome}
use Rattle.weave_io.specs.Told.{ToldBytes}

-- the old bytes with these at this place; a gap between the old end and the place has zeros
abbrev pub written_at : ℕ → List ℕ → List ℕ → List ℕ
written_at at bytes old = take at old ++ (replicate (at - length old) 0 ++ (bytes ++ drop (at + length bytes) old))

-- an image after a write of n bytes that was done in part: any bytes in the range and past the old end, a length
-- between the old one and the end of the range, and the same bytes elsewhere
pub record Torn (at n : ℕ) (old new : List ℕ) : Type 0 where
  pub no_shorter : length old ≤ length new
  pub no_longer : length new ≤ max (length old) (at + n)
  pub before : take (min at (length old)) new ≡ take (min at (length old)) old
  pub after : drop (at + n) new ≡ drop (at + n) old

-- the image comes from one of these by this step
abbrev pub ComesFrom : (List ℕ → List ℕ → Type 0) → (List ℕ → Type 0) → List ℕ → Type 0
ComesFrom step before c = (d : List ℕ) × before d × step d c

-- each image after the call comes from one before it by this step
abbrev pub ImagesFollow : (List ℕ → List ℕ → Type 0) → (List ℕ → Type 0) → (List ℕ → Type 0) → Type 0
ImagesFollow step before after = (c : List ℕ) → after c → ComesFrom step before c

-- the call adds no image
abbrev pub AddsNone : (List ℕ → Type 0) → (List ℕ → Type 0) → Type 0
AddsNone before after = (c : List ℕ) → after c → before c

-- there is this image and no other
abbrev pub Only : List ℕ → (List ℕ → Type 0) → Type 0
Only bytes images = (c : List ℕ) → images c → c ≡ bytes

-- what a crash leaves is what a read gives, if that is known
abbrev pub IsSynced : ToldBytes → (List ℕ → Type 0) → Type 0
IsSynced told images = IfSome told (λ bytes. Only bytes images)

-- these bytes, if the disk says its bytes, are at this place
abbrev pub ReadsAs : ToldBytes → ℕ → List ℕ → Type 0
ReadsAs told at bytes = IfSome told (λ all. (rest : List ℕ) × (drop at all ≡ bytes ++ rest))

-- Time goes on by a call: the images that a crash since t might have left are those that it might have left before the
-- call, and some of those that it may leave now.
pub record Elapses (before now : ℕ) (past since : ℕ → List ℕ → Type 0) (images : List ℕ → Type 0) : Type 0 where
  pub later : before ≤ now
  pub kept : (t : ℕ) (c : List ℕ) → t ≤ before → past t c → since t c
  pub nothing_else : (t : ℕ) (c : List ℕ) → t ≤ before → since t c → past t c ⊎ images c

-- At each moment from the old state to the new one, within calls too, each image has P.
pub record LeavesOnly {D : Type 0} (moment : D → ℕ) (images_since : D → ℕ → List ℕ → Type 0)
    (old new : D) (P : List ℕ → Type 0) : Type 0 where
  pub later : moment old ≤ moment new
  pub each : (c : List ℕ) → images_since new (moment old) c → P c
  -- for a run that began earlier
  pub before : (t : ℕ) (c : List ℕ) → t ≤ moment old → images_since new t c → images_since old t c ⊎ P c
