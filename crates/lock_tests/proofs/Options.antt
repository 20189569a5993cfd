-- Facts on what an option has.
-- Used by `begin`, `start`, `transact`, Began, CarryingOn, Going, Opening and Seated.
use Rattle.std.proofs.Common.{◌≡◌, subst}
use Rattle.std.specs.Prelude.{Option, None, Some}
use Rattle.std.specs.Option.{ForSome}
use Rattle.std.proofs.lemmas.Option.{none-some, same_Some}
use Rattle.vector_stamp.specs.declared.clock.Stamp.{Stamp}

-- any fact holds of what is not there
pub nothing-there : {A : Type 0} (P : A → Type 0) → (let none : Option A = None in ForSome none P)
nothing-there P x is = absurd (none-some x is)

-- a fact that follows for each follows for what is there
pub for-some : {A : Type 0} (P Q : A → Type 0) (o : Option A) → ((x : A) → P x → Q x) → ForSome o P → ForSome o Q
for-some P Q o on had x is = on x (had x is)

-- a fact on the only one that is there
pub just : {A : Type 0} (P : A → Type 0) (x : A) → P x → ForSome (Some x) P
just P x holds y is = subst P (same_Some x y is) holds

-- the last stamp, if it was asked for
pub asked-last : (P : Stamp → Type 0) (asked last : Option Stamp) → ForSome asked (λ stamp. last ≡ Some stamp) → ForSome last P → ForSome asked P
asked-last P asked last same holds x is = holds x (same x is)
