-- Draws from the words of a random generator.
use Rattle.std.specs.Prelude.{ℕ, zero, suc, ◌%◌, List, [], ◌∷◌, ◌++◌}
use Rattle.rand_core.specs.Pcg32Seed.{pcg32_seed}
use Rattle.rand_pcg.specs.Lcg.{Lcg}
use Rattle.rand_pcg.specs.Pcg.{pcg32, pcg32_of_seed}

-- words in the order in which they are drawn, from number 0 on
abbrev pub Words : Type 0
Words = ℕ → ℕ

-- the words after the first
abbrev pub later : Words → Words
later words = λ i. words (suc i)

-- the words of a generator
unfoldable pub words_from : Lcg → Words
words_from generator zero = (pcg32 generator).0
words_from generator (suc i) = words_from (pcg32 generator).1 i

-- the words of the generator that is seeded with a number
abbrev pub words_of_seed : ℕ → Words
words_of_seed seed = words_from (pcg32_of_seed (pcg32_seed 16 seed))

-- what is made of a number below n, which is the next word modulo n, and of the words after it
abbrev pub draw : {A : Type 0} → ℕ → Words → (ℕ → Words → A) → A
draw n words made = made (words 0 % n) (later words)

-- a list of n items, each of which is drawn after the items before it, and the words that are left
unfoldable pub drawn_list : {A : Type 0} → (List A → Words → A × Words) → ℕ → Words → List A × Words
drawn_list item zero words = ([], words)
drawn_list item (suc n) words =
    let before = drawn_list item n words in
    let last = item before.0 before.1 in
    (before.0 ++ last.0 ∷ [], last.1)
