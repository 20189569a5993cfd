-- Clocks may be met in any order.
-- Used by Programs.
use Rattle.std.proofs.Common.{◌≡◌, Bool, not, List, [], ◌∷◌, filter, fold, inl, inr, refl, sym, ap, ◌∙◌}
use Rattle.std.proofs.lemmas.Bool.{cases_Bool}
use Rattle.vector_stamp.specs.declared.clock.Clock.{Clock}
use Rattle.vector_stamp.specs.Clocks.{meet_of}

-- that the order of meets plays no part, as the law `meets_commute` says
pub record MeetsCommute : Type 0 where
  pub commutative : (a b : Clock) → meet_of a b ≡ meet_of b a
  pub associative : (a b c : Clock) → meet_of (meet_of a b) c ≡ meet_of a (meet_of b c)

module _ {A : Type 0} (clock : A → Clock) where
  -- the meet of a clock and those of some things
  abbrev pub met_with : Clock → List A → Clock
  met_with low xs = fold (λ low x. meet_of low (clock x)) low xs

module _ (laws : MeetsCommute) where
  -- two clocks that are met one after the other may be exchanged
  pub meet-swap : (low a b : Clock) → meet_of (meet_of low a) b ≡ meet_of (meet_of low b) a
  meet-swap low a b = laws.associative low a b ∙ ap (meet_of low) (laws.commutative a b) ∙ sym (laws.associative low b a)

  module _ {A : Type 0} (clock : A → Clock) where
    -- a clock can be met before or after the others
    pub met-late : (low first : Clock) (xs : List A) → met_with clock (meet_of low first) xs ≡ meet_of low (met_with clock first xs)
    met-late low first [] = refl
    met-late low first (x ∷ xs) = ap (λ k. met_with clock k xs) (laws.associative low first (clock x)) ∙ met-late low (meet_of first (clock x)) xs

    -- a clock that is met before others can be met after them all
    pub met-after : (low last : Clock) (xs : List A) → met_with clock (meet_of low last) xs ≡ meet_of (met_with clock low xs) last
    met-after low last [] = refl
    met-after low last (x ∷ xs) = ap (λ k. met_with clock k xs) (meet-swap low last (clock x)) ∙ met-after (meet_of low (clock x)) last xs

    -- those that pass a test can be met first
    pub met-parted : (p : A → Bool) (low : Clock) (xs : List A) → met_with clock low xs ≡ met_with clock (met_with clock low (filter p xs)) (filter (λ x. not (p x)) xs)
    met-parted p low [] = refl
    met-parted p low (x ∷ xs) =
        elim (cases_Bool (p x)) [
          | inl holds ↦ rw holds (met-parted p (meet_of low (clock x)) xs)
          | inr fails ↦
              rw fails (
              met-parted p (meet_of low (clock x)) xs
              ∙ ap (λ k. met_with clock k (filter (λ y. not (p y)) xs)) (met-after low (clock x) (filter p xs))
              )
        ]
