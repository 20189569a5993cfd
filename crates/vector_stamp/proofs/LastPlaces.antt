-- The last element that passes a test, and the last of the first ones, in what is left of a list.
-- Used by crates shard_node, version_chain and weave_entries.
use Rattle.std.proofs.Common.{◌≡◌, ℕ, zero, suc, ◌+◌, ◌-◌, ◌≤◌, Bool, true, false, List, [], ◌∷◌, drop, refl, sym, ap, ◌∙◌, arith}
use Rattle.vector_stamp.specs.declared.clock.Stamp.{Stamp}
use Rattle.vector_stamp.specs.Seeing.{with_front, last_place, last_seen}

-- with one that passes in front some element passes
pub front-first : (front : Bool) (place : ℕ) → front ≡ true → 1 ≤ with_front front place
front-first true zero is = omega arith
front-first true (suc place) is = omega arith
front-first false place is = absurd cc

front-less : (front : Bool) (place n : ℕ) → place - n ≡ with_front front place - suc n
front-less true zero n = omega arith
front-less false zero n = omega arith
front-less front (suc place) n = omega arith

-- the place of the last one that passes is nearer the front if some are dropped there
pub place-drop : {A : Type 0} (test : A → Bool) (n : ℕ) (xs : List A)
    → last_place test (drop n xs) ≡ last_place test xs - n
place-drop test zero xs = omega arith
place-drop test (suc n) [] = omega arith
place-drop test (suc n) (x ∷ xs) = place-drop test n xs ∙ front-less (test x) (last_place test xs) n

last-of-none : (n : ℕ) → last_seen n [] ≡ []
last-of-none zero = refl
last-of-none (suc n) = refl

-- the last of the first ones is also that of what is left if some before it are dropped
pub last-dropped : (n place all : ℕ) (updates : List Stamp) → all ≡ n + place → 1 ≤ place
    → last_seen all updates ≡ last_seen place (drop n updates)
last-dropped zero place all updates is some = let same : all ≡ place = omega (arith, is) in ap
    (λ (m : ℕ). last_seen m updates) same
last-dropped (suc n) place all [] is some = last-of-none all ∙ sym (last-of-none place)
last-dropped (suc n) place zero (update ∷ updates) is some = absurd (omega (arith, is, some))
last-dropped (suc n) place (suc zero) (update ∷ updates) is some = absurd (omega (arith, is, some))
last-dropped (suc n) place (suc (suc all)) (update ∷ updates) is some = last-dropped n place (suc all) updates
    (omega (arith, is)) some
