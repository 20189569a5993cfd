-- Lists of lists of which one goes on.
-- Used by Alone and Running.
use Rattle.std.proofs.Common.{◌≡◌, ◌≢◌, ℕ, zero, suc, ◌<◌, List, [], ◌∷◌, ◌++◌, length, get_or, set, refl, sym, ap, ◌∙◌, arith}
use Rattle.std.specs.List.{flat_map}
use Rattle.std.proofs.lemmas.List.{append_assoc}
use Rattle.weave_account.proofs.VisitsStay.{flat-alike}

module _ {A : Type 0} where
  -- each list gives the same after one has gone on, if what was added gives nothing
  pub set-alike : {B : Type 0} (f : List A → B) (xss : List (List A)) (place : ℕ) (added : List A)
      → ((xs : List A) → f (xs ++ added) ≡ f xs) → (k : ℕ)
      → f (get_or (set xss place (get_or xss place [] ++ added)) k []) ≡ f (get_or xss k [])
  set-alike f [] place added same k = refl
  set-alike f (xs ∷ xss) zero added same zero = same xs
  set-alike f (xs ∷ xss) zero added same (suc k) = refl
  set-alike f (xs ∷ xss) (suc place) added same zero = refl
  set-alike f (xs ∷ xss) (suc place) added same (suc k) = set-alike f xss place added same k

  -- another list is as it was
  pub set-other : (xss : List (List A)) (place k : ℕ) (ys : List A) → k ≢ place → get_or (set xss place ys) k [] ≡ get_or xss k []
  set-other [] place k ys other = refl
  set-other (xs ∷ xss) zero zero ys other = absurd (other refl)
  set-other (xs ∷ xss) zero (suc k) ys other = refl
  set-other (xs ∷ xss) (suc place) zero ys other = refl
  set-other (xs ∷ xss) (suc place) (suc k) ys other = set-other xss place k ys (λ e. other (ap suc e))

module _ {A B : Type 0} (f : List A → List B) (empty : f [] ≡ []) where
  -- what all lists give has one more
  pub record HasOneMore (xss yss : List (List A)) (x : B) : Type 0 where
    pub front : List B
    pub back : List B
    pub was : flat_map f xss ≡ front ++ back
    pub now : flat_map f yss ≡ front ++ x ∷ back

  -- if one of them gives one more at its end, and the others give the same
  pub one-more : (xss yss : List (List A)) (s : ℕ) (x : B) → s < length xss → length yss ≡ length xss
      → f (get_or yss s []) ≡ f (get_or xss s []) ++ x ∷ []
      → ((k : ℕ) → k ≢ s → f (get_or yss k []) ≡ f (get_or xss k [])) → HasOneMore xss yss x
  one-more [] yss s x low long here others = absurd (omega (arith, low))
  one-more (xs ∷ xss) [] s x low long here others = absurd (omega (arith, long))
  one-more (xs ∷ xss) (ys ∷ yss) zero x low long here others = record {
    front = f xs;
    back = flat_map f xss;
    was = refl;
    now = ap (λ l. l ++ flat_map f yss) here ∙ append_assoc (f xs) (x ∷ []) (flat_map f yss)
        ∙ ap (λ l. f xs ++ x ∷ l) (flat-alike f empty yss xss (λ k. others (suc k) (λ e. omega (arith, e))));
  }
  one-more (xs ∷ xss) (ys ∷ yss) (suc s) x low long here others =
      let rest = one-more xss yss s x (omega (arith, low)) (omega (arith, long)) here (λ k other. others (suc k) (λ e. other (omega (arith, e)))) in
      let first : f ys ≡ f xs = others zero (λ e. omega (arith, e)) in
      record {
        front = f xs ++ rest.front;
        back = rest.back;
        was = ap (λ l. f xs ++ l) rest.was ∙ sym (append_assoc (f xs) rest.front rest.back);
        now = ap (λ l. l ++ flat_map f yss) first ∙ ap (λ l. f xs ++ l) rest.now
            ∙ sym (append_assoc (f xs) rest.front (x ∷ rest.back));
      }
