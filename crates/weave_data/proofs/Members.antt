-- The members of lists, of what is left of a filter, of mapped lists, and the first that passes a test.
-- Used by Ends, Images, ListPlaces, Numbers, Ordered and 31 crates above.
use Rattle.std.proofs.Common.{◌≡◌, ℕ, zero, suc, Bool, true, false, cond, List, [], ◌∷◌, ◌++◌, map, take, drop, Contains, IsTrue, Option, None, Some, ◌⊎◌, inl, inr, refl, sym, ap, subst, ◌∙◌, arith}
use Rattle.std.specs.List.{filter, filter_map, cons_option, find, flat_map, list_any}
use Rattle.std.proofs.lemmas.Bool.{both_ways, or_cases, or_left, or_right}
use Rattle.std.proofs.lemmas.List.Elements.{Contains-append_left, Contains-append_right, Contains-append_cases}

module _ {A : Type 0} where
  -- the empty list has no member
  pub has_none : (x : A) → Contains [] x → ⊥
  has_none x h = omega (arith, h.1)

  -- a list without a member is empty
  pub no-members : (xs : List A) → ((x : A) → Contains xs x → ⊥) → xs ≡ []
  no-members [] none = refl
  no-members (x ∷ xs) none = absurd (none x (zero, omega arith, refl))

  -- a member is the first element, or a member of the rest
  pub has_read : (y : A) (xs : List A) (x : A) → Contains (y ∷ xs) x → (y ≡ x) ⊎ Contains xs x
  has_read y xs x (zero, below, here) = inl here
  has_read y xs x (suc k, below, here) = inr (k, omega (arith, below), here)

  -- the first element is a member
  pub has_head : (y : A) (xs : List A) → Contains (y ∷ xs) y
  has_head y xs = (zero, omega arith, refl)

  -- a member of the rest is a member
  pub has_tail : (y : A) (xs : List A) (x : A) → Contains xs x → Contains (y ∷ xs) x
  has_tail y xs x (k, below, here) = (suc k, omega (arith, below), here)

  -- the last element is a member
  pub has_last : (xs : List A) (x : A) → Contains (xs ++ x ∷ []) x
  has_last xs x = Contains-append_right xs (x ∷ []) x (has_head x [])

  -- a list of one has that one alone
  pub only : (x y : A) → Contains (x ∷ []) y → x ≡ y
  only x y h = elim (has_read x [] y h) [ inl here ↦ here | inr none ↦ absurd (has_none y none) ]

  -- Filters

  -- what is left of a filter was there, and passes
  pub filter_has : (p : A → Bool) (xs : List A) (x : A) → Contains (filter p xs) x → Contains xs x × IsTrue (p x)
  filter_has p [] x h = absurd (has_none x h)
  filter_has p (z ∷ xs) x h = at (p z) refl (filter_has p xs x) h
    where
      at : (b : Bool) → p z ≡ b → (Contains (filter p xs) x → Contains xs x × IsTrue (p x)) → Contains (cond b (z ∷ filter p xs) (filter p xs)) x → Contains (z ∷ xs) x × IsTrue (p x)
      at false e rest g = let r = rest g in (has_tail z xs x r.0, r.1)
      at true e rest g = elim (has_read z (filter p xs) x g) [
        | inl same ↦ (subst (λ k. Contains (z ∷ xs) k) same (has_head z xs), subst (λ k. IsTrue (p k)) same e)
        | inr more ↦ (let r = rest more in (has_tail z xs x r.0, r.1))
      ]

  -- a member that passes is left
  pub has_filter : (p : A → Bool) (xs : List A) (x : A) → Contains xs x → IsTrue (p x) → Contains (filter p xs) x
  has_filter p [] x h t = absurd (has_none x h)
  has_filter p (z ∷ xs) x h t = at (p z) refl (has_read z xs x h) (λ more. has_filter p xs x more t)
    where
      at : (b : Bool) → p z ≡ b → (z ≡ x) ⊎ Contains xs x → (Contains xs x → Contains (filter p xs) x) → Contains (cond b (z ∷ filter p xs) (filter p xs)) x
      at true e (inl same) rest = subst (λ k. Contains (z ∷ filter p xs) k) same (has_head z (filter p xs))
      at true e (inr more) rest = has_tail z (filter p xs) x (rest more)
      at false e (inl same) rest = absurd (both_ways _ e (subst (λ k. IsTrue (p k)) (sym same) t))
      at false e (inr more) rest = rest more

  -- The first that passes

  -- what is found is a member, and passes
  pub find_has : (p : A → Bool) (xs : List A) (x : A) → find p xs ≡ Some x → Contains xs x × IsTrue (p x)
  find_has p [] x e = cc
  find_has p (z ∷ xs) x e = at (p z) refl (find_has p xs x) e
    where
      at : (b : Bool) → p z ≡ b → (find p xs ≡ Some x → Contains xs x × IsTrue (p x)) → cond b (Some z) (find p xs) ≡ Some x → Contains (z ∷ xs) x × IsTrue (p x)
      at true t rest g = let same : z ≡ x = cc in (subst (λ k. Contains (z ∷ xs) k) same (has_head z xs), subst (λ k. IsTrue (p k)) same t)
      at false t rest g = let r = rest g in (has_tail z xs x r.0, r.1)

  -- if nothing is found no member passes
  pub find_lacks : (p : A → Bool) (xs : List A) (x : A) → find p xs ≡ None → Contains xs x → ¬ IsTrue (p x)
  find_lacks p [] x e h t = has_none x h
  find_lacks p (z ∷ xs) x e h t = at (p z) refl e (has_read z xs x h) (λ g more. find_lacks p xs x g more t)
    where
      at : (b : Bool) → p z ≡ b → cond b (Some z) (find p xs) ≡ None → (z ≡ x) ⊎ Contains xs x → (find p xs ≡ None → Contains xs x → ⊥) → ⊥
      at true same g h rest = cc
      at false same g (inl is) rest = both_ways _ same (subst (λ k. IsTrue (p k)) (sym is) t)
      at false same g (inr more) rest = rest g more

  -- if some member passes, `list_any` says so
  pub any_from : (p : A → Bool) (xs : List A) (x : A) → Contains xs x → IsTrue (p x) → IsTrue (list_any p xs)
  any_from p [] x h holds = absurd (has_none x h)
  any_from p (y ∷ ys) x h holds =
      elim (has_read y ys x h) [
        | inl here ↦ or_left (p y) _ (subst (λ z. IsTrue (p z)) (sym here) holds)
        | inr there ↦ or_right (p y) _ (any_from p ys x there holds)
      ]

  -- and if it says so some member passes
  pub any_has : (p : A → Bool) (xs : List A) → IsTrue (list_any p xs) → (x : A) × Contains xs x × IsTrue (p x)
  any_has p [] h = absurd (cc)
  any_has p (y ∷ ys) h =
      elim (or_cases (p y) _ h) [
        | inl here ↦ (y, has_head y ys, here)
        | inr there ↦ let rest = any_has p ys there in (rest.0, has_tail y ys rest.0 rest.1, rest.2)
      ]

  -- The first elements, and what is left

  -- one of the first elements is a member
  pub take_has : (n : ℕ) (xs : List A) (x : A) → Contains (take n xs) x → Contains xs x
  take_has zero xs x h = absurd (has_none x h)
  take_has (suc n) [] x h = absurd (has_none x h)
  take_has (suc n) (y ∷ xs) x h =
      elim (has_read y (take n xs) x h) [
        | inl same ↦ subst (λ z. Contains (y ∷ xs) z) same (has_head y xs)
        | inr more ↦ has_tail y xs x (take_has n xs x more)
      ]

  -- and so is one of what is left when some are dropped
  pub drop_has : (n : ℕ) (xs : List A) (x : A) → Contains (drop n xs) x → Contains xs x
  drop_has zero xs x h = h
  drop_has (suc n) [] x h = absurd (has_none x h)
  drop_has (suc n) (y ∷ xs) x h = has_tail y xs x (drop_has n xs x h)

  -- Where a member is

  -- a list, cut at a member
  pub record CutAt (xs : List A) (x : A) : Type 0 where
    pub before : List A
    pub after : List A
    pub is : xs ≡ before ++ x ∷ after

  -- a list can be cut at each member
  pub cut_at : (xs : List A) (x : A) → Contains xs x → CutAt xs x
  cut_at [] x h = absurd (has_none x h)
  cut_at (z ∷ xs) x h =
      elim (has_read z xs x h) [
        | inl same ↦ record { before = []; after = xs; is = ap (λ k. k ∷ xs) same }
        | inr more ↦ let s = cut_at xs x more in record { before = z ∷ s.before; after = s.after; is = ap (λ ys. z ∷ ys) s.is }
      ]

  -- what it is cut at is a member
  pub has_cut : (before : List A) (x : A) (after : List A) → Contains (before ++ x ∷ after) x
  has_cut before x after = Contains-append_right before (x ∷ after) x (has_head x after)

-- Mapped lists

module _ {A B : Type 0} (f : A → B) where
  -- the image of a member is a member of the mapped list
  pub has_map : (xs : List A) (x : A) → Contains xs x → Contains (map f xs) (f x)
  has_map [] x h = absurd (has_none x h)
  has_map (z ∷ xs) x h =
      elim (has_read z xs x h) [
        | inl same ↦ subst (λ k. Contains (f z ∷ map f xs) (f k)) same (has_head (f z) (map f xs))
        | inr more ↦ has_tail (f z) (map f xs) (f x) (has_map xs x more)
      ]

  -- a member of the mapped list is the image of a member
  pub map_has : (xs : List A) (y : B) → Contains (map f xs) y → (x : A) × Contains xs x × (f x ≡ y)
  map_has [] y h = absurd (has_none y h)
  map_has (x ∷ xs) y h =
      elim (has_read (f x) (map f xs) y h) [
        | inl same ↦ (x, has_head x xs, same)
        | inr more ↦ let r = map_has xs y more in (r.0, has_tail x xs r.0 r.1, r.2)
      ]

module _ {A B : Type 0} (g : A → List B) where
  -- a member of the lists put together is one of some member's list
  pub flat_has : (xs : List A) (y : B) → Contains (flat_map g xs) y → (x : A) × Contains xs x × Contains (g x) y
  flat_has [] y h = absurd (has_none y h)
  flat_has (x ∷ xs) y h =
      elim (Contains-append_cases (g x) (flat_map g xs) y h) [
        | inl here ↦ (x, has_head x xs, here)
        | inr later ↦ let r = flat_has xs y later in (r.0, has_tail x xs r.0 r.1, r.2)
      ]

  -- and each such one is a member
  pub has_flat : (xs : List A) (x : A) (y : B) → Contains xs x → Contains (g x) y → Contains (flat_map g xs) y
  has_flat [] x y h k = absurd (has_none x h)
  has_flat (z ∷ xs) x y h k =
      elim (has_read z xs x h) [
        | inl same ↦ Contains-append_left (g z) (flat_map g xs) y (subst (λ w. Contains (g w) y) (sym same) k)
        | inr more ↦ Contains-append_right (g z) (flat_map g xs) y (has_flat xs x y more k)
      ]

-- What a function that may give nothing gives of a list

module _ {A B : Type 0} (f : A → Option B) where
  read-given : (x : A) (xs : List A) (y : B) (o : Option B) → f x ≡ o
      → (Contains (filter_map f xs) y → (z : A) × Contains xs z × (f z ≡ Some y))
      → Contains (cons_option o (filter_map f xs)) y → (z : A) × Contains (x ∷ xs) z × (f z ≡ Some y)
  read-given x xs y None is rest h = let r = rest h in (r.0, has_tail x xs r.0 r.1, r.2)
  read-given x xs y (Some b) is rest h =
      elim (has_read b (filter_map f xs) y h) [
        | inl same ↦ (x, has_head x xs, is ∙ ap Some same)
        | inr more ↦ let r = rest more in (r.0, has_tail x xs r.0 r.1, r.2)
      ]

  -- what is given is given of some member
  pub filter_map_has : (xs : List A) (y : B) → Contains (filter_map f xs) y → (x : A) × Contains xs x × (f x ≡ Some y)
  filter_map_has [] y h = absurd (has_none y h)
  filter_map_has (x ∷ xs) y h = read-given x xs y (f x) refl (filter_map_has xs y) h

  given-read : (z : A) (xs : List A) (x : A) (y : B) (o : Option B) → f z ≡ o → f x ≡ Some y
      → (z ≡ x) ⊎ Contains (filter_map f xs) y
      → Contains (cons_option o (filter_map f xs)) y
  given-read z xs x y None e is (inl same) = let none : None ≡ Some y = sym e ∙ ap f same ∙ is in absurd (cc)
  given-read z xs x y None e is (inr more) = more
  given-read z xs x y (Some b) e is (inl same) =
      let one : Some b ≡ Some y = sym e ∙ ap f same ∙ is in
      let same' : b ≡ y = cc in
      subst (λ k. Contains (b ∷ filter_map f xs) k) same' (has_head b (filter_map f xs))
  given-read z xs x y (Some b) e is (inr more) = has_tail b (filter_map f xs) y more

  -- and what is given of a member is there
  pub has_filter_map : (xs : List A) (x : A) (y : B) → Contains xs x → f x ≡ Some y → Contains (filter_map f xs) y
  has_filter_map [] x y h is = absurd (has_none x h)
  has_filter_map (z ∷ xs) x y h is =
      elim (has_read z xs x h) [
        | inl same ↦ given-read z xs x y (f z) refl is (inl same)
        | inr more ↦ given-read z xs x y (f z) refl is (inr (has_filter_map xs x y more is))
      ]
