-- One element more adds one to the count of those that give something exactly if it gives something.
-- Used by `commits_in`.
use Rattle.std.proofs.Common.{◌≡◌, ℕ, ◌+◌, ◌<◌, ◌++◌, ◌∷◌, [], cond, List, Option, Some, None, length, take, get_or, refl, sym, ap, ◌∙◌}
use Rattle.std.specs.Prelude.{is_some}
use Rattle.std.specs.List.{filter_map, cons_option}
use Rattle.std.proofs.lemmas.List.{take_more, length-append}
use Rattle.std.proofs.lemmas.List.Elements.{filter_map-append}

module _ {A : Type 0} (f : A → Option ℕ) where
  of_one : (o : Option ℕ) → length (cons_option o []) ≡ cond (is_some o) 1 0
  of_one None = refl
  of_one (Some n) = refl

  -- one element more adds one to the count exactly if f gives something for it
  pub counted_more : (xs : List A) (i : ℕ) (x : A) → i < length xs → x ≡ get_or xs i x → length (filter_map f (take (i + 1) xs)) ≡ length (filter_map f (take i xs)) + cond (is_some (f x)) 1 0
  counted_more xs i x lt is =
      ap (λ (ys : List A). length (filter_map f ys)) (take_more xs i x lt ∙ ap (λ (y : A). take i xs ++ y ∷ []) (sym is))
      ∙ ap length (filter_map-append f (take i xs) (x ∷ [])) ∙ length-append (filter_map f (take i xs)) _ ∙ ap (λ n. length (filter_map f (take i xs)) + n) (of_one (f x))
