-- The items of one thing, in the order of their times: what the thing became, and when.
use Rattle.std.specs.Prelude.{ℕ, not, ◌&&◌, List, [], ◌∷◌, filter, Option, Some, None, is_some, nat_le, if◌then◌else◌}
use Rattle.std.specs.List.{AllByRecursion}
use Rattle.std.specs.Option.{option_map, option_and_then}
use Rattle.version_parts.specs.declared.time.Time.{Time}
use Rattle.version_parts.specs.declared.track.Item.{Item}
use Rattle.version_parts.specs.declared.cut.Cut.{Cut}
use Rattle.version_parts.specs.declared.cut.Cut.TheVariants.{Newer, Older}
use Rattle.version_parts.specs.Times.{counts}

-- the first, or else the second
abbrev pub or_else : {A : Type 0} → Option A → Option A → Option A
or_else None other = other
or_else (Some first) other = Some first

module _ {X : Type 0} where
  -- the item, unless it is of a later update
  abbrev pub unless_later : ℕ → Item X → Option (Item X)
  unless_later update item = if nat_le item.time.update update then Some item else None

  -- the last item of an update or of those before it
  abbrev pub last_at : ℕ → List (Item X) → Option (Item X)
  last_at update [] = None
  last_at update (item ∷ rest) = or_else (last_at update rest) (unless_later update item)

  -- what an item says of a part of a thing that is there since `since`: its value, with its time
  abbrev pub shown_value : Option Time → Item X → Option (Time × X)
  shown_value since item =
      if counts since item.time then option_map (λ (value : X). (item.time, value)) item.value else None

  -- what the part is after an update, with the time since when
  abbrev pub live_at : ℕ → Option Time → List (Item X) → Option (Time × X)
  live_at update since items = option_and_then (shown_value since) (last_at update items)

  -- the time since when the part is there
  abbrev pub since_at : ℕ → Option Time → List (Item X) → Option Time
  since_at update since items = option_map (λ (live : Time × X). live.0) (live_at update since items)

  -- what is left from the oldest update on: nothing before the last item at or before it, and that one only if the part
  -- is there
  abbrev pub from_oldest : ℕ → Option Time → List (Item X) → List (Item X)
  from_oldest oldest since [] = []
  from_oldest oldest since (item ∷ rest) =
      if is_some (last_at oldest rest) then from_oldest oldest since rest
      else if nat_le item.time.update oldest && not (is_some (shown_value since item)) then rest
      else item ∷ rest

  -- what a cut leaves
  abbrev pub cut_items : Cut → List (Item X) → List (Item X)
  cut_items (Newer update) items = filter (λ (item : Item X). nat_le item.time.update update) items
  cut_items (Older oldest since) items = from_oldest oldest since items

  -- the cut of what belongs to a thing with these items
  abbrev pub inner_cut : Cut → List (Item X) → Cut
  inner_cut (Newer update) items = Newer update
  inner_cut (Older oldest since) items = Older oldest (since_at oldest since items)

  -- each time has P
  abbrev pub AllTimes : (Time → Type 0) → List (Item X) → Type 0
  AllTimes P items = AllByRecursion (λ (item : Item X). P item.time) items
