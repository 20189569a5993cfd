-- The first element of a list that passes a test.
-- Used by `decide`, Judging, Replay and Rule.
use Rattle.std.proofs.Common.{◌≡◌, ℕ, ◌+◌, ◌<◌, ◌≤◌, Bool, true, false, cond, List, [], ◌∷◌, ◌++◌, length, map, filter, reverse, Option, None, Some, inl, inr, refl, sym, ap, ◌∙◌, arith}
use Rattle.std.specs.Prelude.{position, nat_lt, slice_get, eqb}
use Rattle.std.specs.List.{position_or_len, find}
use Rattle.std.specs.Option.{option_or}
use Rattle.std.proofs.lemmas.Bool.{cases_Bool, cases_lt, lt-ltb, ltb-true, cond-true, cond-false, eq-eqb, ne_eqb}
use Rattle.std.proofs.lemmas.List.{reverse-append, length-append, length-map}
use Rattle.std.proofs.lemmas.List.Folds.{find_at, find-append, position_or_len_push}
use Rattle.std.proofs.lemmas.Option.{slice_get_past, none-some}

not_below : (a b : ℕ) → b ≤ a → nat_lt a b ≡ false
not_below a b over = elim (cases_Bool (nat_lt a b)) [ inl lt ↦ absurd (let k = ltb-true a b lt in omega arith) | inr h ↦ h ]

module _ {X : Type 0} (p : X → Bool) where
  at_some : (b : Bool) (i k : ℕ) → cond b (Some k) None ≡ Some i → k ≡ i
  at_some true i k e = cc
  at_some false i k e = absurd (cc)

  -- what is found is at its place
  pub found_at : (xs : List X) (i : ℕ) → position p xs ≡ Some i → find p xs ≡ slice_get xs i
  found_at xs i e = find_at p xs ∙ ap (slice_get xs) (at_some (nat_lt (position_or_len p xs) (length xs)) i (position_or_len p xs) e)

  -- and that place is within the list
  pub found_within : (xs : List X) (i : ℕ) → position p xs ≡ Some i → i < length xs
  found_within xs i e =
      elim (cases_lt (position_or_len p xs) (length xs)) [
        | inl below ↦ let same = at_some (nat_lt (position_or_len p xs) (length xs)) i (position_or_len p xs) e in omega arith
        | inr over ↦ absurd (none-some i (sym (cond-false _ _ _ (not_below _ _ over)) ∙ e))
      ]

  -- if there is no place nothing is found
  pub found_none : (xs : List X) → position p xs ≡ None → find p xs ≡ None
  found_none xs e =
      elim (cases_lt (position_or_len p xs) (length xs)) [
        | inl below ↦ absurd (none-some _ (sym e ∙ cond-true _ _ _ (lt-ltb _ _ below)))
        | inr over ↦ find_at p xs ∙ slice_get_past xs _ over
      ]

  or_find : (o : Option X) (x : X) → option_or o (cond (p x) (Some x) None) ≡ None → (o ≡ None) × (p x ≡ false)
  or_find None x e = elim (cases_Bool (p x)) [ inl holds ↦ absurd (none-some x (sym e ∙ ap (λ b. cond b (Some x) None) holds)) | inr fails ↦ (refl, fails) ]
  or_find (Some y) x e = absurd (cc)

  -- if none passes from the end, the filter leaves nothing
  pub none_from_end : (xs : List X) → find p (reverse xs) ≡ None → filter p xs ≡ []
  none_from_end [] e = refl
  none_from_end (x ∷ xs) e =
      let both = or_find (find p (reverse xs)) x (sym (find-append p (reverse xs) (x ∷ [])) ∙ sym (ap (find p) (reverse-append (x ∷ []) xs)) ∙ e) in
      rw both.1 (none_from_end xs both.0)

  -- from the end, one more element at the end is looked at first
  pub find_push : (xs : List X) (x : X) → find p (reverse (xs ++ x ∷ [])) ≡ cond (p x) (Some x) (find p (reverse xs))
  find_push xs x = ap (find p) (reverse-append xs (x ∷ []))

module _ {X Y : Type 0} (f : X → Y) (p : Y → Bool) where
  -- the place among images is that of what passes by its image
  pub place_map : (xs : List X) → position_or_len p (map f xs) ≡ position_or_len (λ x. p (f x)) xs
  place_map [] = refl
  place_map (x ∷ xs) = rw (place_map xs) refl

  -- the place of the first image that passes, if one does, is that of the first element that passes by its image
  pub position_map : (xs : List X) → position p (map f xs) ≡ position (λ x. p (f x)) xs
  position_map xs = rw (place_map xs, length-map xs f) refl

module _ {A : Type 0} (p : A → Bool) where
  -- with one more element at the end, the first place that passes is the old one, or else the new one's
  pub position_push : (xs : List A) (y : A) → position p (xs ++ y ∷ []) ≡ option_or (position p xs) (cond (p y) (Some (length xs)) None)
  position_push xs y =
      elim (cases_lt (position_or_len p xs) (length xs)) [
        | inl below ↦
            let short : eqb (position_or_len p xs) (length xs) ≡ false = ne_eqb (position_or_len p xs) (length xs) (λ e. omega (arith, e)) in
            let at : position_or_len p (xs ++ y ∷ []) ≡ position_or_len p xs = position_or_len_push p xs y ∙ ap (λ b. cond b (length xs + cond (p y) 0 1) (position_or_len p xs)) short in
            rw (at, length-append xs (y ∷ []), lt-ltb (position_or_len p xs) (length xs) below, lt-ltb (position_or_len p xs) (length xs + 1) (omega arith)) refl
        | inr over ↦ at_end over (omega (arith, position_within xs))
      ]
    where
      position_within : (zs : List A) → position_or_len p zs ≤ length zs
      position_within [] = omega arith
      position_within (z ∷ zs) = elim (cases_Bool (p z)) [ inl holds ↦ rw holds (omega arith) | inr fails ↦ rw fails (omega (arith, position_within zs)) ]

      at_end : length xs ≤ position_or_len p xs → position_or_len p xs ≡ length xs → position p (xs ++ y ∷ []) ≡ option_or (position p xs) (cond (p y) (Some (length xs)) None)
      at_end over end =
          let at : position_or_len p (xs ++ y ∷ []) ≡ length xs + cond (p y) 0 1 = position_or_len_push p xs y ∙ ap (λ b. cond b (length xs + cond (p y) 0 1) (position_or_len p xs)) (eq-eqb (position_or_len p xs) (length xs) end) in
          let none : position p xs ≡ None = cond-false (nat_lt (position_or_len p xs) (length xs)) (Some (position_or_len p xs)) None (not_below (position_or_len p xs) (length xs) over) in
          elim (cases_Bool (p y)) [
            | inl holds ↦
                let here : position_or_len p (xs ++ y ∷ []) ≡ length xs = at ∙ ap (λ b. length xs + cond b 0 1) holds ∙ omega arith in
                let inside : position_or_len p (xs ++ y ∷ []) < length (xs ++ y ∷ []) = omega (arith, length-append xs (y ∷ []), here) in
                cond-true (nat_lt (position_or_len p (xs ++ y ∷ [])) (length (xs ++ y ∷ []))) _ _ (lt-ltb _ _ inside) ∙ ap Some here
                ∙ rw (none, holds) refl
            | inr fails ↦
                let here : position_or_len p (xs ++ y ∷ []) ≡ length xs + 1 = at ∙ ap (λ b. length xs + cond b 0 1) fails in
                let past : length (xs ++ y ∷ []) ≤ position_or_len p (xs ++ y ∷ []) = omega (arith, length-append xs (y ∷ []), here) in
                cond-false (nat_lt (position_or_len p (xs ++ y ∷ [])) (length (xs ++ y ∷ []))) _ _ (not_below _ _ past)
                ∙ rw (none, fails) refl
          ]
