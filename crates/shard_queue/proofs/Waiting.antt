-- What waits under a number, after a message was put there or taken away.
-- Used by Channels.
use Rattle.std.proofs.Common.{◌≡◌, ◌≢◌, ℕ, ◌<◌, Bool, true, false, cond, List, [], ◌∷◌, ◌⊎◌, inl, inr, Some, refl, sym, ap, subst, ◌∙◌, arith}
use Rattle.std.specs.declared.cmp.Ordering.TheVariants.{Less, Equal, Greater}
use Rattle.std.specs.Ordering.{nat_cmp, is_eq}
use Rattle.std.specs.Cmp.{nat_cmp_is}
use Rattle.std.specs.Map.{lookup, remove_entry}
use Rattle.std.specs.BTreeMap.{insert_entry, is_at}
use Rattle.std.proofs.lemmas.Bool.{cases_order}

-- how two numbers compare
pub data Compared (a b : ℕ) : Type 0 where
  IsLess : a < b → nat_cmp a b ≡ Less → Compared a b
  IsEqual : a ≡ b → nat_cmp a b ≡ Equal → Compared a b
  IsGreater : b < a → nat_cmp a b ≡ Greater → Compared a b

-- of two numbers the first is less, equal or greater, and the comparison says which
pub compared : (a b : ℕ) → Compared a b
compared a b = elim (cases_order a b) [
  | inl same ↦ IsEqual same (sym (nat_cmp_is a b Equal same))
  | inr (inl less) ↦ IsLess less (sym (nat_cmp_is a b Less less))
  | inr (inr more) ↦ IsGreater more (sym (nat_cmp_is a b Greater more))
]

-- a number is found equal to itself
pub at_itself : (a : ℕ) → is_eq (nat_cmp a a) ≡ true
at_itself a = ap is_eq (sym (nat_cmp_is a a Equal refl))

-- a number is not found equal to another one
pub at_other : (a b : ℕ) → a ≢ b → is_eq (nat_cmp a b) ≡ false
at_other a b other = elim (compared a b) [
  | IsLess less is ↦ ap is_eq is
  | IsEqual same is ↦ absurd (other same)
  | IsGreater more is ↦ ap is_eq is
]

-- a test of one number: either it is the one, or the test fails
pub at_number : (a b : ℕ) → ((a ≡ b) × (is_eq (nat_cmp a b) ≡ true)) ⊎ ((a ≢ b) × (is_eq (nat_cmp a b) ≡ false))
at_number a b = elim (compared a b) [
  | IsLess less is ↦ inr ((λ same. omega arith), ap is_eq is)
  | IsEqual same is ↦ inl (same, ap is_eq is)
  | IsGreater more is ↦ inr ((λ same. omega arith), ap is_eq is)
]

module _ {M : Type 0} where
  -- the message that was put is there
  pub put-there : (n : ℕ) (m : M) (es : List (ℕ × M)) → lookup (is_at (nat_cmp n)) (insert_entry nat_cmp es n m) ≡ Some m
  put-there n m [] = rw (at_itself n) refl
  put-there n m (e ∷ es) = elim (compared n e.0) [
    | IsLess less is ↦ rw is (rw (at_itself n) refl)
    | IsEqual same is ↦ rw is (rw is refl)
    | IsGreater more is ↦ rw is (rw is (put-there n m es))
  ]

  -- and the others stay
  pub put-others : (n k : ℕ) (m : M) (es : List (ℕ × M)) → n ≢ k → lookup (is_at (nat_cmp n)) (insert_entry nat_cmp es k m) ≡ lookup (is_at (nat_cmp n)) es
  put-others n k m [] other = rw (at_other n k other) refl
  put-others n k m (e ∷ es) other = elim (compared k e.0) [
    | IsLess less is ↦ rw is (rw (at_other n k other) refl)
    | IsEqual same is ↦
        let apart : is_eq (nat_cmp n e.0) ≡ false = at_other n e.0 (λ at. other (at ∙ sym same)) in
        rw is (rw apart refl)
    | IsGreater more is ↦ rw is (ap (λ rest. cond (is_eq (nat_cmp n e.0)) (Some e.1) rest) (put-others n k m es other))
  ]

  -- what is taken away leaves the others
  pub take-others : (n k : ℕ) (es : List (ℕ × M)) → n ≢ k → lookup (is_at (nat_cmp n)) (remove_entry (is_at (nat_cmp k)) es) ≡ lookup (is_at (nat_cmp n)) es
  take-others n k [] other = refl
  take-others n k (e ∷ es) other = elim (at_number k e.0) [
    | inl at ↦
        let apart : is_eq (nat_cmp n e.0) ≡ false = at_other n e.0 (λ same. other (same ∙ sym at.0)) in
        rw at.1 (rw apart refl)
    | inr off ↦ rw off.1 (ap (λ rest. cond (is_eq (nat_cmp n e.0)) (Some e.1) rest) (take-others n k es other))
  ]

  -- what holds of all that waits
  abbrev pub AllWaiting : (ℕ → M → Type 0) → List (ℕ × M) → Type 0
  AllWaiting P [] = Unit {0}
  AllWaiting P (e ∷ es) = P e.0 e.1 × AllWaiting P es

  -- what holds of all that waits, and of a message, holds of all with that message put there
  pub all-put : (P : ℕ → M → Type 0) (n : ℕ) (m : M) (es : List (ℕ × M)) → P n m → AllWaiting P es → AllWaiting P (insert_entry nat_cmp es n m)
  all-put P n m [] here all = (here, tt)
  all-put P n m (e ∷ es) here all = elim (compared n e.0) [
    | IsLess less is ↦ rw is (here, all)
    | IsEqual same is ↦ rw is (subst (λ (k : ℕ). P k m) same here, all.1)
    | IsGreater more is ↦ rw is (all.0, all-put P n m es here all.1)
  ]

  -- what holds of all that waits still holds when one is taken away
  pub all-take : (P : ℕ → M → Type 0) (n : ℕ) (es : List (ℕ × M)) → AllWaiting P es → AllWaiting P (remove_entry (is_at (nat_cmp n)) es)
  all-take P n [] all = tt
  all-take P n (e ∷ es) all = elim (at_number n e.0) [
    | inl at ↦ rw at.1 all.1
    | inr off ↦ rw off.1 (all.0, all-take P n es all.1)
  ]

  -- and so of what is found
  pub all-found : (P : ℕ → M → Type 0) (n : ℕ) (m : M) (es : List (ℕ × M)) → AllWaiting P es → lookup (is_at (nat_cmp n)) es ≡ Some m → P n m
  all-found P n m [] all found = absurd cc
  all-found P n m (e ∷ es) all found = elim (at_number n e.0) [
    | inl at ↦
        let is : Some e.1 ≡ Some m = ap (λ (b : Bool). cond b (Some e.1) (lookup (is_at (nat_cmp n)) es)) (sym at.1) ∙ found in
        let same : e.1 ≡ m = cc in
        subst (λ (k : ℕ). P k m) (sym at.0) (subst (P e.0) same all.0)
    | inr off ↦
        all-found P n m es all.1 (ap (λ (b : Bool). cond b (Some e.1) (lookup (is_at (nat_cmp n)) es)) (sym off.1) ∙ found)
  ]
