-- Values that may be there.
-- Used by 5 crates above.
use Rattle.std.proofs.Common.{◌≡◌, true, Option, None, Some, is_some, refl}
use Rattle.std.specs.Option.{IsSomeAnd, option_map, option_or}

-- a value or none is the value
pub or_none : {A : Type 0} (x : Option A) → option_or x None ≡ x
or_none None = refl
or_none (Some x) = refl

-- where a value is there no other is taken
pub or_there : {A : Type 0} (x y : Option A) → is_some x ≡ true → option_or x y ≡ x
or_there None y there = absurd cc
or_there (Some x) y there = refl

-- the image of one value or another is the image of the one or of the other
pub map-or : {A B : Type 0} (f : A → B) (x y : Option A)
    → option_map f (option_or x y) ≡ option_or (option_map f x) (option_map f y)
map-or f None y = refl
map-or f (Some x) y = refl

-- an image that is there is that of a value that is there
pub map_some : {A B : Type 0} (f : A → B) (x : Option A) (y : B) → option_map f x ≡ Some y
    → (z : A) × (x ≡ Some z) × (f z ≡ y)
map_some f None y is = absurd cc
map_some f (Some z) y is = (z, refl, cc)

-- what holds of a value that is there still holds if less is asked of it
pub some-weaker : {A : Type 0} (P Q : A → Type 0) (found : Option A) → ((x : A) → P x → Q x) → IsSomeAnd found P
    → IsSomeAnd found Q
some-weaker P Q None weaker holds = holds
some-weaker P Q (Some x) weaker holds = weaker x holds
