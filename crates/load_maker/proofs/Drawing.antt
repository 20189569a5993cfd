-- What is kept from item to item of a list that is drawn.
-- Used by Counted, DrawnValues, ValidParts and ValidScripts.
use Rattle.std.proofs.Common.{◌≡◌, ℕ, zero, suc, ◌+◌, List, [], ◌∷◌, ◌++◌, length, refl, ap, arith}
use Rattle.std.specs.List.{AllByRecursion}
use Rattle.std.proofs.lemmas.List.{length-append}
use Rattle.load_maker.specs.Words.{Words, drawn_list}

-- what holds of no items, and is kept by one more, holds of n
pub list_keeps : {A : Type 0} (item : List A → Words → A × Words) (P : ℕ → List A → Type 0) → P 0 []
    → ((n : ℕ) (before : List A) (words : Words) → P n before → P (suc n) (before ++ (item before words).0 ∷ []))
    → (n : ℕ) (words : Words) → P n (drawn_list item n words).0
unfolding drawn_list
list_keeps item P none more zero words = none
list_keeps item P none more (suc n) words =
    more n (drawn_list item n words).0 (drawn_list item n words).1 (list_keeps item P none more n words)

-- a drawn list of n items has n items
pub list_length : {A : Type 0} (item : List A → Words → A × Words) (n : ℕ) (words : Words) → length (drawn_list item n words).0 ≡ n
list_length {A} item n words =
    list_keeps item (λ n items. length items ≡ n) refl (λ n before words h. omega (arith, length-append before ((item before words).0 ∷ []), h)) n words

-- one more item, by the loop's index
pub list_more : {A : Type 0} (item : List A → Words → A × Words) (n : ℕ) (words : Words)
    → drawn_list item (n + 1) words ≡ (let before = drawn_list item n words in let last = item before.0 before.1 in (before.0 ++ last.0 ∷ [], last.1))
unfolding drawn_list
list_more item n words = let e : n + 1 ≡ suc n = omega arith in ap (λ n. drawn_list item n words) e
