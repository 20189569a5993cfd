-- Lists of lists of which one is set to another.
-- Used by BeginAccount, FinishStep, QuietGateEntry, VisitStep and crate weaver_core.
use Rattle.std.proofs.Common.{◌≡◌, ℕ, zero, suc, ◌<◌, List, [], ◌∷◌, ◌++◌, map, length, Contains, refl, sym, ap, ◌∙◌, append_assoc, get_or, arith}
use Rattle.std.specs.Prelude.{slice_set}
use Rattle.std.specs.List.{flat_map}
use Rattle.weave_data.proofs.Members.{has_head, has_tail}

-- the images are the same if those of each member are
pub map-same : {A B : Type 0} (f h : A → B) (xs : List A) → ((x : A) → Contains xs x → f x ≡ h x) → map f xs ≡ map h xs
map-same f h [] same = refl
map-same f h (x ∷ xs) same = (λ i. same x (has_head x xs) i ∷ map-same f h xs (λ y k. same y (has_tail x xs y k)) i)

-- one of the lists is set to another that gives the same
pub flat-set : {A B : Type 0} (f : List A → List B) (xss : List (List A)) (s : ℕ) (ys : List A) → s < length xss → f ys ≡ f (get_or xss s []) → flat_map f (slice_set xss s ys) ≡ flat_map f xss
flat-set f [] s ys within same = absurd (omega (arith, within))
flat-set f (xs ∷ xss) zero ys within same = ap (λ zs. zs ++ flat_map f xss) same
flat-set f (xs ∷ xss) (suc s) ys within same = ap (λ zs. f xs ++ zs) (flat-set f xss s ys (omega (arith, within)) same)

-- what all give, before and after one of them gives more
pub record SetMore {A B : Type 0} (f : List A → List B) (xss : List (List A)) (s : ℕ) (ys : List A) (more : List B) : Type 0 where
  pub front : List B
  pub back : List B
  pub was : flat_map f xss ≡ front ++ back
  pub now : flat_map f (slice_set xss s ys) ≡ front ++ (more ++ back)

-- one of the lists is set to another that gives more
pub flat-more : {A B : Type 0} (f : List A → List B) (xss : List (List A)) (s : ℕ) (ys : List A) (more : List B) → s < length xss → f ys ≡ f (get_or xss s []) ++ more → SetMore f xss s ys more
flat-more f [] s ys more within is = absurd (omega (arith, within))
flat-more f (xs ∷ xss) zero ys more within is =
    record { front = f xs; back = flat_map f xss; was = refl; now = ap (λ zs. zs ++ flat_map f xss) is ∙ append_assoc (f xs) more (flat_map f xss) }
flat-more f (xs ∷ xss) (suc s) ys more within is =
    let rest = flat-more f xss s ys more (omega (arith, within)) is in
    record {
      front = f xs ++ rest.front;
      back = rest.back;
      was = ap (λ zs. f xs ++ zs) rest.was ∙ sym (append_assoc (f xs) rest.front rest.back);
      now = ap (λ zs. f xs ++ zs) rest.now ∙ sym (append_assoc (f xs) rest.front (more ++ rest.back));
    }
