-- Lists that begin others, and what a list has at a position.
-- Used by AsJudge, Asking, Giving, Growing, Keeping, Levelled, Replaying, Settling and Views.
use Rattle.std.proofs.Common.{◌≡◌, ℕ, zero, suc, ◌≤◌, List, [], ◌∷◌, ◌++◌, length, slice_get, Some, Contains, sym, refl, ap, subst, ◌∙◌, append_assoc, append-nil, arith}
use Rattle.std.proofs.lemmas.List.{length-append}
use Rattle.std.proofs.lemmas.List.Elements.{Contains-append_left}
use Rattle.std.proofs.lemmas.Option.{none-some, same_Some}
use Rattle.oracle_chain.specs.IsReplicaChain.{IsPrefixOf}

module _ {A : Type 0} where
  -- each list is a beginning of itself
  pub whole : (xs : List A) → IsPrefixOf xs xs
  whole xs = ([], sym (append-nil xs))

  -- the beginning of a beginning is one
  pub onward : (xs ys zs : List A) → IsPrefixOf xs ys → IsPrefixOf ys zs → IsPrefixOf xs zs
  onward xs ys zs first second = (first.0 ++ second.0, second.1 ∙ ap (λ l. l ++ second.0) first.1 ∙ append_assoc xs first.0 second.0)

  -- a list begins one that is the same
  pub same-on : (xs ys : List A) → ys ≡ xs → IsPrefixOf xs ys
  same-on xs ys same = ([], same ∙ sym (append-nil xs))

  -- what a list has at a position, a longer one has there
  pub get-append : (xs ys : List A) (k : ℕ) (x : A) → slice_get xs k ≡ Some x → slice_get (xs ++ ys) k ≡ Some x
  get-append [] ys k x h = absurd (none-some x h)
  get-append (y ∷ xs) ys zero x h = h
  get-append (y ∷ xs) ys (suc k) x h = get-append xs ys k x h

  -- what a list has at a position, one that goes on has there
  pub get-on : (xs ys : List A) (k : ℕ) (x : A) → IsPrefixOf xs ys → slice_get xs k ≡ Some x → slice_get ys k ≡ Some x
  get-on xs ys k x on h = subst (λ zs. slice_get zs k ≡ Some x) (sym on.1) (get-append xs on.0 k x h)

  -- after a list comes what follows it
  pub get-after : (xs ys : List A) → slice_get (xs ++ ys) (length xs) ≡ slice_get ys 0
  get-after [] ys = refl
  get-after (x ∷ xs) ys = get-after xs ys

  after-one : (xs more : List A) (y : A) → slice_get more 0 ≡ Some y → IsPrefixOf (xs ++ y ∷ []) (xs ++ more)
  after-one xs [] y h = absurd (none-some y h)
  after-one xs (z ∷ more) y h = (more, ap (λ w. xs ++ w ∷ more) (same_Some z y h) ∙ sym (append_assoc xs (y ∷ []) more))

  -- a beginning and the element after it are a beginning
  pub next-begins : (xs ys : List A) (y : A) → IsPrefixOf xs ys → slice_get ys (length xs) ≡ Some y → IsPrefixOf (xs ++ y ∷ []) ys
  next-begins xs ys y on h =
      subst (λ zs. IsPrefixOf (xs ++ y ∷ []) zs) (sym on.1) (
      after-one xs on.0 y (sym (get-after xs on.0) ∙ ap (λ zs. slice_get zs (length xs)) (sym on.1) ∙ h))

  -- a list that goes on is no shorter
  pub longer : (xs ys : List A) → IsPrefixOf xs ys → length xs ≤ length ys
  longer xs ys on = let many = ap length on.1 ∙ length-append xs on.0 in omega (arith, many)

  -- what a list has, one that goes on has
  pub has-on : (xs ys : List A) → IsPrefixOf xs ys → (x : A) → Contains xs x → Contains ys x
  has-on xs ys on x h = subst (λ zs. Contains zs x) (sym on.1) (Contains-append_left xs on.0 x h)
