-- What is left of a level, and what the step to the next level gives.
-- Used by `add`, `go_down`, `go_on`, Pathing and Searched.
use Rattle.std.proofs.Common.{◌≡◌, ◌<◌, ◌≤◌, ℕ, suc, drop, arith, refl, Bool, true, false, List, [], ◌∷◌, length, ap, ◌∙◌, sym, Option, Some, None, ◌+◌}
use Rattle.std.specs.Prelude.{is_none, ◌==◌, if◌then◌else◌}
use Rattle.std.proofs.Math.Seq.{drop-cons}
use Rattle.std.proofs.lemmas.List.{drop_all, drop-drop}
use Rattle.std.proofs.lemmas.Bool.Decides.{nat_tests}
use Rattle.weave_data.specs.declared.name.Name.{Name}
use Rattle.program_defs.specs.declared.aim.Aim.{Aim}
use Rattle.program_defs.specs.Searching.{SearchState, next_of, onto_next_level, gone_on}
use Rattle.program_defs.specs.Walks.{is_value}
use Rattle.program_defs.specs.Visits.{as_set, first_of}

-- the search with these parts is the one that has gone on to the next level
pub down-is : (was : SearchState) (aim : Aim) (left : Option ℕ) (rest found reached present : List Name) (over : Bool) (room : ℕ)
    → aim ≡ was.aim → left ≡ was.left → rest ≡ as_set was.found → found ≡ [] → reached ≡ was.reached → present ≡ was.present → over ≡ is_none (first_of (as_set was.found))
    → record { aim = aim; left = left; rest = rest; found = found; reached = reached; present = present; over = over; room = room } ≡ record (onto_next_level was.left was) { room = room }
down-is was aim left rest found reached present over room a b c d e f g = λ i. record { aim = a i; left = b i; rest = c i; found = d i; reached = e i; present = f i; over = g i; room = room }

more-than-none : (k : ℕ) → suc k == 0 ≡ false
more-than-none k = grind (arith, nat_tests)

-- a list is empty by its length exactly if it has no first name
pub empty-is : (names : List Name) (len : ℕ) (empty : Bool) → len ≡ length names → empty ≡ (len == 0) → empty ≡ is_none (first_of names)
empty-is [] len empty n e = e ∙ ap (λ k. k == 0) n
empty-is (x ∷ xs) len empty n e = e ∙ ap (λ k. k == 0) n ∙ more-than-none (length xs)

-- the next vertex is the first of the rest
pub next-first : (search : SearchState) (v : Name) → next_of search ≡ Some v → (first_of search.rest ≡ Some v) × (search.over ≡ false)
next-first search v is = at search.over refl is
  where
    at : (b : Bool) → search.over ≡ b → (if b then None else first_of search.rest) ≡ Some v → (first_of search.rest ≡ Some v) × (search.over ≡ false)
    at true e h = cc
    at false e h = (h, e)

-- if names after the first n begin with one, they are this one and the names after the first n + 1
pub next-rest : (n : ℕ) (names : List Name) (v : Name) → first_of (drop n names) ≡ Some v → drop n names ≡ v ∷ drop (n + 1) names
next-rest n names v first = at (drop n names) refl first
  where
    at : (xs : List Name) → drop n names ≡ xs → first_of xs ≡ Some v → drop n names ≡ v ∷ drop (n + 1) names
    at [] e h = cc
    at (x ∷ xs) e h = let same : x ≡ v = cc in let more : drop (n + 1) names ≡ xs = sym (drop-drop 1 n names) ∙ ap (drop 1) e in e ∙ ap (λ y. y ∷ xs) same ∙ ap (λ ys. v ∷ ys) (sym more)

-- a search whose level isn't read, and that isn't at its target, goes on with the rest of the level
pub still-is : (search : SearchState) (v : Name) → is_value search.aim.target v ≡ false → is_none (first_of search.rest) ≡ false → search ≡ record (gone_on v search) { room = search.room }
still-is search v other more = rw (other, more) refl

-- what is left of a level
pub left-over : (n : ℕ) (names : List Name) → n < length names → is_none (first_of (drop n names)) ≡ false
left-over n names less = rw (drop-cons names n []) refl

-- after as many names as there are, or more, none is left
pub none-left : (n : ℕ) (names : List Name) → length names ≤ n → drop n names ≡ []
none-left n names more = drop_all n names more
