-- The parts of an answer to `price` in a list of words.
-- Used by `mark_in` and `priced_of`.
use Rattle.std.proofs.Common.{◌≡◌, ℕ, zero, suc, ◌+◌, ◌-◌, Bool, not, cond, ltb, List, [], ◌∷◌, length, map, take, drop, Bor, refl, sym, ap, ◌∙◌, subst, arith}
use Rattle.std.specs.Prelude.{Option, Some, None, Result, Ok, Err}
use Rattle.std.specs.List.{position, position_or_len}
use Rattle.std.proofs.lemmas.List.{drop-map, length-drop, length-map, take_all}
use Rattle.weave_data.specs.Steps.{◌>>=◌}
use Rattle.weave_data.specs.declared.name.Name.{Name}
use Rattle.weave_text.specs.Lines.{Word}
use Rattle.program_defs.specs.declared.program.Answer.{Answer}
use Rattle.program_defs.specs.declared.program.Answer.TheVariants.{Priced}
use Rattle.program_defs.specs.declared.program.Bound.{Bound}
use Rattle.weave_report.specs.declared.fault.LineFault.{LineFault}
use Rattle.weave_report.specs.ReadAnswers.{Gives}
use Rattle.weave_report.specs.ReadingPriced.{bounds_from, priced_at, priced_walk_in}
use Rattle.weave_report.proofs.ReadSteps.{then_ok}
use Rattle.weave_report.proofs.ReadingLoops.{fails}

module _ {A B : Type 0} (f : A → B) where
  place_map : (p : B → Bool) (xs : List A) → position_or_len p (map f xs) ≡ position_or_len (λ x. p (f x)) xs
  place_map p [] = refl
  place_map p (x ∷ xs) = ap (λ n. cond (not (p (f x))) (1 + n) 0) (place_map p xs)

  -- the first place of a list of images is that of what they are made of
  pub position_map : (p : B → Bool) (xs : List A) → position p (map f xs) ≡ position (λ x. p (f x)) xs
  position_map p xs = λ i. cond (ltb (place_map p xs i) (length-map xs f i)) (Some (place_map p xs i)) None

  take_map : (n : ℕ) (xs : List A) → take n (map f xs) ≡ map f (take n xs)
  take_map zero xs = refl
  take_map (suc n) [] = refl
  take_map (suc n) (x ∷ xs) = ap (λ xs. f x ∷ xs) (take_map n xs)

  drop_map : (n : ℕ) (xs : List A) → drop n (map f xs) ≡ map f (take (length xs - n) (drop n xs))
  drop_map n xs = drop-map f n xs ∙ ap (map f) (sym (take_all (length xs - n) (drop n xs) (omega (arith, length-drop n xs))))

module _ (total : Word) (words : List (Bor (List ℕ))) (at : ℕ) (o : Option ℕ) (there : o ≡ Some at) where
  -- the walk and the bounds make the answer
  pub priced_made : (walk : Option (List Name)) (price : ℕ) (bounds : List Bound) → priced_walk_in total (map (λ word. word.now) (take at words)) ≡ Ok (walk, price)
      → bounds_from [] None (map (λ word. word.now) (take (length words - (at + 1)) (drop (at + 1) words))) ≡ Ok bounds → priced_at total (map (λ word. word.now) words) o ≡ Ok (Priced walk price bounds)
  priced_made walk price bounds led listed =
      ap (priced_at total (map (λ word. word.now) words)) there
      ∙ then_ok _ _ (walk, price) _ (ap (priced_walk_in total) (take_map (λ (word : Bor (List ℕ)). word.now) at words) ∙ led)
      (then_ok _ _ bounds _ (ap (bounds_from [] None) (drop_map (λ (word : Bor (List ℕ)). word.now) (at + 1) words) ∙ listed) refl)

  -- no walk is read
  pub priced_no_walk : (fault : LineFault) → Gives {A = Option (List Name) × ℕ} (Err fault) (priced_walk_in total (map (λ word. word.now) (take at words)))
      → Gives {A = Answer} (Err fault) (priced_at total (map (λ word. word.now) words) o)
  priced_no_walk fault failed =
      fails fault (priced_walk_in total (take at (map (λ word. word.now) words)))
      (λ (walk : Option (List Name) × ℕ). bounds_from [] None (drop (at + 1) (map (λ word. word.now) words)) >>= λ bounds. Ok (Priced walk.0 walk.1 bounds)) _
      (sym (ap (priced_at total (map (λ word. word.now) words)) there))
      (subst (λ (names : List Word). Gives {A = Option (List Name) × ℕ} (Err fault) (priced_walk_in total names)) (sym (take_map (λ (word : Bor (List ℕ)). word.now) at words)) failed)

  -- a walk is read, and no bounds
  pub priced_no_bounds : (walk : Option (List Name)) (price : ℕ) (fault : LineFault) → priced_walk_in total (map (λ word. word.now) (take at words)) ≡ Ok (walk, price)
      → Gives {A = List Bound} (Err fault) (bounds_from [] None (map (λ word. word.now) (take (length words - (at + 1)) (drop (at + 1) words))))
      → Gives {A = Answer} (Err fault) (priced_at total (map (λ word. word.now) words) o)
  priced_no_bounds walk price fault led failed =
      fails fault (bounds_from [] None (drop (at + 1) (map (λ word. word.now) words))) (λ (bounds : List Bound). Ok (Priced walk price bounds)) _
      (sym (ap (priced_at total (map (λ word. word.now) words)) there
      ∙ then_ok _ _ (walk, price) _ (ap (priced_walk_in total) (take_map (λ (word : Bor (List ℕ)). word.now) at words) ∙ led) refl))
      (subst (λ (words : List Word). Gives {A = List Bound} (Err fault) (bounds_from [] None words)) (sym (drop_map (λ (word : Bor (List ℕ)). word.now) (at + 1) words)) failed)
