-- Lists by places: the place of an element in a part of a list, and relations between elements at two places.
-- Used by ByHands, InTurn, LastStamp, Needed, Once, Programs, Work and crates sessions_account, weave_phase and
-- workers_account.
use Rattle.std.proofs.Common.{◌≡◌, ℕ, ◌<◌, ◌≤◌, Bool, true, false, cond, List, [], ◌∷◌, ◌++◌, length, drop, get_or, Contains, AllPairs, IsTrue, ◌⊎◌, inl, inr, refl, sym, ap, subst, ◌∙◌, arith}
use Rattle.std.specs.List.{filter, flat_map}
use Rattle.std.proofs.lemmas.Bool.{cases_order}
use Rattle.std.proofs.lemmas.List.Elements.{filter-append}
use Rattle.std.proofs.Math.Seq.{drop-append_seam}
use Rattle.weave_data.proofs.Members.{cut_at, filter_has, flat_has, has_filter, has_head, has_tail}
use Rattle.weave_data.proofs.Ordered.{pairs_across, pairs_cons, pairs_head, pairs_none, pairs_tail}
use Rattle.seen_logs.proofs.Placed.{pairs-append}
use Rattle.weave_account.specs.GoesOn.{IsBeginningOf}

-- of two numbers the first is less, or the second is at most the first
pub less-or : (a b : ℕ) → (a < b) ⊎ (b ≤ a)
less-or a b =
    elim (cases_order a b) [
      | inl same ↦ inr (omega (arith, same))
      | inr (inl less) ↦ inl less
      | inr (inr more) ↦ inr (omega (arith, more))
    ]

-- Parts of a list

module _ {A : Type 0} where
  -- a place past the first part is one of the second
  pub in-back : (xs more before after : List A) (e : A) → xs ++ more ≡ before ++ e ∷ after → length xs ≤ length before
      → (mid : List A) × (before ≡ xs ++ mid) × (more ≡ mid ++ e ∷ after)
  in-back [] more before after e is le = (before, refl, is)
  in-back (x ∷ xs) more [] after e is le = absurd (omega (arith, le))
  in-back (x ∷ xs) more (b ∷ before) after e is le =
      let heads : b ≡ x = cc in
      let tails : xs ++ more ≡ before ++ e ∷ after = cc in
      let rest = in-back xs more before after e tails (omega (arith, le)) in
      (rest.0, ap (λ y. y ∷ before) heads ∙ ap (λ ys. x ∷ ys) rest.1, rest.2)

  -- what is there past the first elements, at its place
  pub since-place : (start log : List A) → IsBeginningOf start log → (before : List A) (e : A) (after : List A) → log ≡ before ++ e ∷ after
      → length start ≤ length before → (mid : List A) × (before ≡ start ++ mid) × (drop (length start) log ≡ mid ++ e ∷ after)
  since-place start log on before e after at late =
      let back = in-back start on.0 before after e (sym on.1 ∙ at) late in
      (back.0, back.1, ap (drop (length start)) on.1 ∙ drop-append_seam start on.0 ∙ back.2)

  -- the element at its place
  pub at-place : (before after : List A) (e d : A) → get_or (before ++ e ∷ after) (length before) d ≡ e
  at-place [] after e d = refl
  at-place (b ∷ before) after e d = at-place before after e d

-- Pairs

module _ {A : Type 0} (R : A → A → Type 0) where
  -- a list in which each element has the relation to each later one, by the places of the two
  pub pairs-by-places : (xs : List A) → ((before mid after : List A) (e d : A) → xs ≡ before ++ e ∷ (mid ++ d ∷ after) → R e d) → AllPairs R xs
  pairs-by-places [] each = pairs_none R
  pairs-by-places (x ∷ xs) each =
      pairs_cons R x xs
      (λ y h. let cut = cut_at xs y h in each [] cut.before cut.after x y (ap (λ l. x ∷ l) cut.is))
      (pairs-by-places xs (λ before mid after e d is. each (x ∷ before) mid after e d (ap (λ l. x ∷ l) is)))

  -- if all pairs of a list are related, in order, so are those of its elements that pass a test
  pub pairs-filter : (p : A → Bool) (xs : List A) → AllPairs R xs → AllPairs R (filter p xs)
  pairs-filter p [] pairs = pairs_none R
  pairs-filter p (x ∷ xs) pairs = at (p x) (pairs-filter p xs (pairs_tail R x xs pairs))
    where
      at : (b : Bool) → AllPairs R (filter p xs) → AllPairs R (cond b (x ∷ filter p xs) (filter p xs))
      at false rest = rest
      at true rest = pairs_cons R x (filter p xs) (λ y h. pairs_head R x xs y pairs (filter_has p xs y h).0) rest

  -- of what passes a test, each in the first part has the relation to each in the second
  pub filter-across : (p : A → Bool) (xs ys : List A) → AllPairs R (filter p (xs ++ ys)) → (x y : A)
      → Contains xs x → Contains ys y → IsTrue (p x) → IsTrue (p y) → R x y
  filter-across p xs ys pairs x y h k px py =
      pairs_across R (filter p xs) (filter p ys) x y (subst (AllPairs R) (filter-append p xs ys) pairs)
      (has_filter p xs x h px) (has_filter p ys y k py)

module _ {A B : Type 0} (R : B → B → Type 0) (f : A → List B) where
  -- what is made of one element has the relation to what is made of another
  abbrev pub Across : A → A → Type 0
  Across a b = (x y : B) → Contains (f a) x → Contains (f b) y → R x y

  -- what is made of all elements, if it has the relation within what is made of each and from each to each later one
  pub flat-pairs : (xs : List A) → ((x : A) → Contains xs x → AllPairs R (f x)) → AllPairs Across xs → AllPairs R (flat_map f xs)
  flat-pairs [] within across = pairs_none R
  flat-pairs (x ∷ xs) within across =
      pairs-append R (f x) (flat_map f xs) (within x (has_head x xs))
      (flat-pairs xs (λ y h. within y (has_tail x xs y h)) (pairs_tail Across x xs across))
      (λ y z h k. let of = flat_has f xs z k in pairs_head Across x xs of.0 across of.1 y z h of.2)
