-- A generated script has as many requests as its size says, and four times as many steps.
-- Used by `summary_of_core` and Loaded.
use Rattle.std.proofs.Common.{◌≡◌, ℕ, zero, suc, ◌*◌, List, [], ◌∷◌, length, refl, arith}
use Rattle.std.proofs.lemmas.List.{length-append}
use Rattle.weave_script.specs.Scripts.{steps_of}
use Rattle.load_maker.specs.Words.{Words, drawn_list, words_of_seed}
use Rattle.load_maker.specs.Generated.{drawn_request, script_from, script_of, drawn_step}

drawn-length : {A : Type 0} (item : List A → Words → A × Words) (n : ℕ) (words : Words) → length (drawn_list item n words).0 ≡ n
unfolding drawn_list
drawn-length item zero words = refl
drawn-length item (suc n) words =
    let before = drawn_list item n words in
    let rest = drawn-length item n words in
    let more = length-append before.0 ((item before.0 before.1).0 ∷ []) in
    omega (arith, rest, more)

-- a script has as many requests as its size says
pub requests-made : (seed size : ℕ) → length (script_of seed size).requests ≡ size
unfolding script_from
requests-made seed size = drawn-length drawn_request size (words_of_seed seed)

-- a generated script has four times as many steps as its size
pub steps-made : (seed size : ℕ) → length (steps_of (script_of seed size).steps) ≡ 4 * size
unfolding script_from
steps-made seed size = drawn-length (λ _ words. drawn_step size words) (4 * size) (drawn_list drawn_request size (words_of_seed seed)).1
