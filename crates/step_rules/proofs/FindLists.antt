-- Looking for an element in a list that has one more.
-- Used by BeginAccount, Replying, ReportedReplies, VisitStep and crate workers_account.
use Rattle.std.proofs.Common.{◌≡◌, Bool, true, false, cond, List, [], ◌∷◌, ◌++◌, AllPairs, Contains, Option, None, Some, inl, inr, refl, ap, subst, ◌∙◌}
use Rattle.std.specs.Prelude.{is_some, ◌||◌}
use Rattle.std.specs.List.{find, list_any}
use Rattle.std.specs.Option.{option_map, option_or}
use Rattle.std.proofs.lemmas.List.Elements.{Contains-append_left, Contains-append_right, Contains-append_cases}
use Rattle.weave_data.proofs.Members.{has_head, has_read, has_tail}
use Rattle.weave_data.proofs.Ordered.{pairs_cons, pairs_head, pairs_tail}

-- an element that doesn't pass changes nothing of what is found
pub find-into : {A : Type 0} (p : A → Bool) (front : List A) (x : A) (back : List A) → p x ≡ false → find p (front ++ x ∷ back) ≡ find p (front ++ back)
find-into p [] x back fails = ap (λ b. cond b (Some x) (find p back)) fails
find-into p (y ∷ front) x back fails = ap (λ o. cond (p y) (Some y) o) (find-into p front x back fails)

-- one that passes is found if none before it does
pub find-here : {A : Type 0} (p : A → Bool) (front : List A) (x : A) (back : List A) → ((y : A) → Contains front y → p y ≡ false) → p x ≡ true → find p (front ++ x ∷ back) ≡ Some x
find-here p [] x back fails passes = ap (λ b. cond b (Some x) (find p back)) passes
find-here p (y ∷ front) x back fails passes =
    ap (λ b. cond b (Some y) (find p (front ++ x ∷ back))) (fails y (has_head y front)) ∙ find-here p front x back (λ z h. fails z (has_tail y front z h)) passes

-- one passes exactly if one is found
pub any-find : {A : Type 0} (p : A → Bool) (xs : List A) → list_any p xs ≡ is_some (find p xs)
any-find p [] = refl
any-find p (x ∷ xs) = at (p x) (any-find p xs)
  where
    at : (b : Bool) → list_any p xs ≡ is_some (find p xs) → (b || list_any p xs) ≡ is_some (cond b (Some x) (find p xs))
    at true rest = refl
    at false rest = rest

-- what has no image isn't there
pub no-some : {A B : Type 0} (f : A → B) (o : Option A) → is_some (option_map f o) ≡ false → o ≡ None
no-some f None e = refl
no-some f (Some x) e = cc

-- and has none if it isn't there
pub is-some-map : {A B : Type 0} (f : A → B) (o : Option A) → is_some (option_map f o) ≡ is_some o
is-some-map f None = refl
is-some-map f (Some x) = refl

-- an option with nothing to fall back on stays as it is
pub or-none : {A : Type 0} (o : Option A) → option_or o None ≡ o
or-none None = refl
or-none (Some x) = refl

-- one more element that is in the relation to all
pub pairs-into : {A : Type 0} (R : A → A → Type 0) (front : List A) (x : A) (back : List A) → AllPairs R (front ++ back) → ((y : A) → Contains front y → R y x) → ((y : A) → Contains back y → R x y) → AllPairs R (front ++ x ∷ back)
pairs-into R [] x back pairs before after = pairs_cons R x back after pairs
pairs-into R (y ∷ front) x back pairs before after =
    pairs_cons R y (front ++ x ∷ back) heads (pairs-into R front x back (pairs_tail R y (front ++ back) pairs) (λ z h. before z (has_tail y front z h)) after)
  where
    heads : (z : _) → Contains (front ++ x ∷ back) z → R y z
    heads z h = elim (Contains-append_cases front (x ∷ back) z h) [
      | inl there ↦ pairs_head R y (front ++ back) z pairs (Contains-append_left front back z there)
      | inr here ↦ elim (has_read x back z here) [
        | inl same ↦ subst (R y) same (before y (has_head y front))
        | inr more ↦ pairs_head R y (front ++ back) z pairs (Contains-append_right front back z more)
      ]
    ]
