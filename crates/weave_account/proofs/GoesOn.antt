-- Lists that begin others: each begins itself, the beginning of a beginning is one, and a list that goes on keeps what it
-- has.
-- Used by 11 crates above.
use Rattle.std.proofs.Common.{◌≡◌, ◌≤◌, List, [], ◌++◌, length, Contains, sym, ap, subst, ◌∙◌, append_assoc, arith}
use Rattle.std.proofs.lemmas.List.{append-nil, length-append}
use Rattle.std.proofs.lemmas.List.Elements.{Contains-append_left}
use Rattle.std.specs.List.{flat_map}
use Rattle.std.proofs.lemmas.List.Concat.{flat_map-append}
use Rattle.weave_account.specs.GoesOn.{IsBeginningOf}

-- each list is a beginning of itself
pub whole : {A : Type 0} (xs : List A) → IsBeginningOf xs xs
whole xs = ([], sym (append-nil xs))

-- a list begins one that is the same
pub same-on : {A : Type 0} (xs ys : List A) → ys ≡ xs → IsBeginningOf xs ys
same-on xs ys same = ([], same ∙ sym (append-nil xs))

-- the beginning of a beginning is one
pub onward : {A : Type 0} (xs ys zs : List A) → IsBeginningOf xs ys → IsBeginningOf ys zs → IsBeginningOf xs zs
onward xs ys zs first second = (first.0 ++ second.0, second.1 ∙ ap (λ l. l ++ second.0) first.1 ∙ append_assoc xs first.0 second.0)

-- what a list has, one that goes on has
pub has-on : {A : Type 0} (xs ys : List A) → IsBeginningOf xs ys → (x : A) → Contains xs x → Contains ys x
has-on xs ys on x h = subst (λ zs. Contains zs x) (sym on.1) (Contains-append_left xs on.0 x h)

-- a list that goes on is no shorter
pub longer : {A : Type 0} (xs ys : List A) → IsBeginningOf xs ys → length xs ≤ length ys
longer xs ys on = let many = ap length on.1 ∙ length-append xs on.0 in omega (arith, many)

-- what is made of each element goes on too
pub flat-on : {A B : Type 0} (f : A → List B) (xs ys : List A) → IsBeginningOf xs ys → IsBeginningOf (flat_map f xs) (flat_map f ys)
flat-on f xs ys on = (flat_map f on.0, ap (flat_map f) on.1 ∙ flat_map-append f xs on.0)
