-- Items split at an update: what is before the split, and what a cut leaves.
-- Used by `cut`, `last_at`, `outdated`, `passed`, Cutting, Placing and Pushing.
use Rattle.std.proofs.Common.{◌≡◌, ◌≤◌, ◌<◌, ◌-◌, ℕ, zero, suc, Bool, true, false, not, ◌&&◌, cond, List, [], ◌∷◌, take, drop, filter, length, get_or, Option, Some, None, is_some, refl, sym, ap, ◌∙◌, subst, arith}
use Rattle.std.specs.List.{slice_get}
use Rattle.std.specs.List.Sorted.{IsPartitionPoint}
use Rattle.std.proofs.lemmas.Bool.{le-leb, lt-leb, leb-true, leb-false}
use Rattle.std.specs.Prelude.{nat_le}
use Rattle.version_parts.specs.declared.time.Time.{Time}
use Rattle.version_parts.specs.declared.track.Item.{Item}
use Rattle.version_parts.specs.Splits.{AreNewer, IsSplit}
use Rattle.version_parts.specs.Tracks.{or_else, unless_later, last_at, shown_value, from_oldest}

module _ {X : Type 0} where
  -- an item of the update, or of one before it, isn't too late
  pub in_time : (update : ℕ) (item : Item X) → item.time.update ≤ update → unless_later update item ≡ Some item
  in_time update item before = ap (λ b. cond b (Some item) None) (le-leb item.time.update update before)

  -- an item of a later update is too late
  pub too_late : (update : ℕ) (item : Item X) → update < item.time.update → unless_later update item ≡ None
  too_late update item after = ap (λ b. cond b (Some item) None) (lt-leb item.time.update update after)

  -- the first or else nothing is the first
  pub or_none : (first : Option (Item X)) → or_else first None ≡ first
  or_none None = refl
  or_none (Some item) = refl

  -- where a search by the test ends

  newer : (update : ℕ) (items : List (Item X)) → ((k : ℕ) (d : Item X) → k < length items → nat_le (get_or items k d).time.update update ≡ false) → AreNewer update items
  newer update [] fails = tt
  newer update (item ∷ rest) fails = (
    leb-false item.time.update update (fails zero item (omega arith)),
    newer update rest (λ k d below. fails (suc k) d (omega (arith, below))),
  )

  split_by : (update : ℕ) (items : List (Item X)) (at : ℕ) → at ≤ length items
      → ((k : ℕ) (d : Item X) → k < at → nat_le (get_or items k d).time.update update ≡ true)
      → ((k : ℕ) (d : Item X) → at ≤ k → k < length items → nat_le (get_or items k d).time.update update ≡ false)
      → IsSplit update items at
  split_by update [] at within passes fails = omega (arith, within)
  split_by update (item ∷ rest) zero within passes fails = newer update (item ∷ rest) (λ k d below. fails k d (omega arith) below)
  split_by update (item ∷ rest) (suc at) within passes fails = (
    leb-true item.time.update update (passes zero item (omega arith)),
    split_by update rest at (omega (arith, within)) (λ k d below. passes (suc k) d (omega (arith, below))) (λ k d above below. fails (suc k) d (omega (arith, above)) (omega (arith, below))),
  )

  -- if the items up to a place are just those of the update and of those before it, the items are split there
  pub split_at : (update : ℕ) (items : List (Item X)) (at : ℕ) → at ≤ length items → IsPartitionPoint (λ (item : Item X). nat_le item.time.update update ≡ true) (λ (item : Item X). nat_le item.time.update update ≡ false) items at → IsSplit update items at
  split_at update items at within parted = split_by update items at within (λ k d below. parted.0 k d (omega arith) below) (λ k d above below. parted.1 k d above below)

  -- what is before it

  -- if all items are of later updates, there is no last item of the update or of those before it
  pub none_newer : (update : ℕ) (items : List (Item X)) → AreNewer update items → last_at update items ≡ None
  none_newer update [] new = refl
  none_newer update (item ∷ rest) new = ap (λ (o : Option (Item X)). or_else o (unless_later update item)) (none_newer update rest new.1) ∙ too_late update item new.0

  split_zero : (update : ℕ) (items : List (Item X)) → IsSplit update items zero → last_at update items ≡ None
  split_zero update [] split = refl
  split_zero update (item ∷ rest) split = none_newer update (item ∷ rest) split

  split_suc : (update : ℕ) (items : List (Item X)) (at : ℕ) → IsSplit update items (suc at) → last_at update items ≡ slice_get items at
  split_suc update [] at split = absurd (omega (arith, split))
  split_suc update (item ∷ rest) zero split =
      ap (λ (o : Option (Item X)). or_else o (unless_later update item)) (split_zero update rest split.1) ∙ in_time update item split.0
  split_suc update (item ∷ rest) (suc at) split =
      ap (λ (o : Option (Item X)). or_else o (unless_later update item)) (split_suc update rest at split.1) ∙ first_of rest at split.1
    where
      first_of : (xs : List (Item X)) (n : ℕ) → IsSplit update xs (suc n) → or_else (slice_get xs n) (unless_later update item) ≡ slice_get xs n
      first_of [] n split = absurd (omega (arith, split))
      first_of (x ∷ xs) zero split = refl
      first_of (x ∷ xs) (suc n) split = first_of xs n split.1

  last_item : (update : ℕ) (items : List (Item X)) (at : ℕ) (d : Item X) → IsSplit update items (suc at) → last_at update items ≡ Some (get_or items at d)
  last_item update [] at d split = absurd (omega (arith, split))
  last_item update (item ∷ rest) zero d split = ap (λ (o : Option (Item X)). or_else o (unless_later update item)) (split_zero update rest split.1) ∙ in_time update item split.0
  last_item update (item ∷ rest) (suc at) d split = ap (λ (o : Option (Item X)). or_else o (unless_later update item)) (last_item update rest at d split.1)

  one_before : (update : ℕ) (items : List (Item X)) (n : ℕ) → IsSplit update items n → 0 < n → IsSplit update items (suc (n - 1))
  one_before update items n split some = let is : n ≡ suc (n - 1) = omega (arith, some) in subst (IsSplit update items) is split

  -- if the split has items before it, the last of them is the last item of the update and of those before it
  pub last_passed : (update : ℕ) (items : List (Item X)) (n : ℕ) (d : Item X) → IsSplit update items n → 0 < n → last_at update items ≡ Some (get_or items (n - 1) d)
  last_passed update items n d split some = last_item update items (n - 1) d (one_before update items n split some)

  -- if the split has no items before it, no item is of the update or of those before it
  pub none_passed : (update : ℕ) (items : List (Item X)) (n : ℕ) → IsSplit update items n → n ≡ 0 → last_at update items ≡ None
  none_passed update items n split none = split_zero update items (subst (IsSplit update items) none split)

  -- what a cut leaves

  none_left : (update : ℕ) (items : List (Item X)) → AreNewer update items → filter (λ (item : Item X). nat_le item.time.update update) items ≡ []
  none_left update [] new = refl
  none_left update (item ∷ rest) new = ap (λ b. cond b (item ∷ filter (λ (x : Item X). nat_le x.time.update update) rest) (filter (λ (x : Item X). nat_le x.time.update update) rest)) (lt-leb item.time.update update new.0) ∙ none_left update rest new.1

  -- the items before the split are those that are left when the items after the update are dropped
  pub older_left : (update : ℕ) (items : List (Item X)) (at : ℕ) → IsSplit update items at → take at items ≡ filter (λ (item : Item X). nat_le item.time.update update) items
  older_left update [] zero split = refl
  older_left update [] (suc at) split = refl
  older_left update (item ∷ rest) zero split = sym (none_left update (item ∷ rest) split)
  older_left update (item ∷ rest) (suc at) split =
      ap (λ (xs : List (Item X)). item ∷ xs) (older_left update rest at split.1)
      ∙ sym (ap (λ b. cond b (item ∷ filter (λ (x : Item X). nat_le x.time.update update) rest) (filter (λ (x : Item X). nat_le x.time.update update) rest)) (le-leb item.time.update update split.0))

  module _ (since : Option Time) where
    -- one step of a collection, by whether an older item follows and whether this one is dropped
    abbrev step : Bool → Bool → ℕ → Item X → List (Item X) → List (Item X)
    step follows gone oldest item rest = cond follows (from_oldest oldest since rest) (cond gone rest (item ∷ rest))

    all_newer : (oldest : ℕ) (items : List (Item X)) → AreNewer oldest items → items ≡ from_oldest oldest since items
    all_newer oldest [] new = refl
    all_newer oldest (item ∷ rest) new =
        sym (ap (λ b. cond (is_some (last_at oldest rest)) (from_oldest oldest since rest) (cond (b && not (is_some (shown_value since item))) rest (item ∷ rest))) (lt-leb item.time.update oldest new.0)
        ∙ ap (λ (o : Option (Item X)). cond (is_some o) (from_oldest oldest since rest) (item ∷ rest)) (none_newer oldest rest new.1))

    -- if no item is of the oldest update or of those before it, a collection drops nothing
    pub nothing_old : (oldest : ℕ) (items : List (Item X)) → IsSplit oldest items zero → items ≡ from_oldest oldest since items
    nothing_old oldest [] split = refl
    nothing_old oldest (item ∷ rest) split = all_newer oldest (item ∷ rest) split

    -- the last old item by itself
    last_old : (oldest : ℕ) (item : Item X) (rest : List (Item X)) → item.time.update ≤ oldest → IsSplit oldest rest zero → from_oldest oldest since (item ∷ rest) ≡ cond (not (is_some (shown_value since item))) rest (item ∷ rest)
    last_old oldest item rest old split =
        ap (λ (o : Option (Item X)). cond (is_some o) (from_oldest oldest since rest) (cond (nat_le item.time.update oldest && not (is_some (shown_value since item))) rest (item ∷ rest))) (split_zero oldest rest split)
        ∙ ap (λ b. cond (b && not (is_some (shown_value since item))) rest (item ∷ rest)) (le-leb item.time.update oldest old)

    some_old : (oldest : ℕ) (item : Item X) (rest : List (Item X)) (at : ℕ) → IsSplit oldest rest (suc at) → from_oldest oldest since (item ∷ rest) ≡ from_oldest oldest since rest
    some_old oldest item rest at split =
        ap (λ (o : Option (Item X)). cond (is_some o) (from_oldest oldest since rest) (cond (nat_le item.time.update oldest && not (is_some (shown_value since item))) rest (item ∷ rest))) (split_suc oldest rest at split)
        ∙ found rest at split
      where
        found : (xs : List (Item X)) (n : ℕ) → IsSplit oldest xs (suc n) → cond (is_some (slice_get xs n)) (from_oldest oldest since rest) (cond (nat_le item.time.update oldest && not (is_some (shown_value since item))) rest (item ∷ rest)) ≡ from_oldest oldest since rest
        found [] n split = absurd (omega (arith, split))
        found (x ∷ xs) zero split = refl
        found (x ∷ xs) (suc n) split = found xs n split.1

    one_left : (oldest : ℕ) (items : List (Item X)) (at : ℕ) (d : Item X) → IsSplit oldest items (suc at) → is_some (shown_value since (get_or items at d)) ≡ true → drop at items ≡ from_oldest oldest since items
    one_left oldest [] at d split shows = absurd (omega (arith, split))
    one_left oldest (item ∷ rest) zero d split shows = sym (last_old oldest item rest split.0 split.1 ∙ ap (λ b. cond (not b) rest (item ∷ rest)) shows)
    one_left oldest (item ∷ rest) (suc at) d split shows = one_left oldest rest at d split.1 shows ∙ sym (some_old oldest item rest at split.1)

    none_shown : (oldest : ℕ) (items : List (Item X)) (at : ℕ) (d : Item X) → IsSplit oldest items (suc at) → is_some (shown_value since (get_or items at d)) ≡ false → drop (suc at) items ≡ from_oldest oldest since items
    none_shown oldest [] at d split shows = absurd (omega (arith, split))
    none_shown oldest (item ∷ rest) zero d split shows = sym (last_old oldest item rest split.0 split.1 ∙ ap (λ b. cond (not b) rest (item ∷ rest)) shows)
    none_shown oldest (item ∷ rest) (suc at) d split shows = none_shown oldest rest at d split.1 shows ∙ sym (some_old oldest item rest at split.1)

    -- if the last item before the split shows a value, a collection leaves that item and those after it
    pub shown_left : (oldest : ℕ) (items : List (Item X)) (n : ℕ) (d : Item X) → IsSplit oldest items n → 0 < n → is_some (shown_value since (get_or items (n - 1) d)) ≡ true → drop (n - 1) items ≡ from_oldest oldest since items
    shown_left oldest items n d split some shows = one_left oldest items (n - 1) d (one_before oldest items n split some) shows

    -- if the last item before the split shows no value, a collection leaves only the items after it
    pub hidden_left : (oldest : ℕ) (items : List (Item X)) (n : ℕ) (d : Item X) → IsSplit oldest items n → 0 < n → is_some (shown_value since (get_or items (n - 1) d)) ≡ false → drop n items ≡ from_oldest oldest since items
    hidden_left oldest items n d split some shows =
        let is : n ≡ suc (n - 1) = omega (arith, some) in
        ap (λ (k : ℕ). drop k items) is ∙ none_shown oldest items (n - 1) d (one_before oldest items n split some) shows
