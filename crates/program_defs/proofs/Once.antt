-- No vertex is visited twice.
-- Used by Answering, GoingOn, Onward, Searched and Seeing.
use Rattle.std.proofs.Common.{◌≡◌, ℕ, zero, suc, Bool, true, false, List, [], ◌∷◌, ◌++◌, IsTrue, refl, sym, subst, inl, inr}
use Rattle.std.specs.Prelude.{if◌then◌else◌}
use Rattle.std.proofs.lemmas.Bool.{or_parts, both_ways, false_from_ne_true, or_cases}
use Rattle.weave_data.specs.Names.{same_name, one_name}
use Rattle.weave_data.specs.declared.name.Name.{Name}
use Rattle.graph_ops.specs.Mentions.{is_among}
use Rattle.graph_ops.specs.PlainGraph.{PlainGraph}
use Rattle.graph_ops.proofs.Vertices.{same_name-refl}
use Rattle.program_defs.specs.declared.passing.Passing.{Passing}
use Rattle.program_defs.specs.declared.passing.Passing.TheVariants.{Priced}
use Rattle.program_defs.specs.declared.program.Program.{Program}
use Rattle.program_defs.specs.declared.program.Program.TheVariants.{Show, Reach, Around, Path, Price}
use Rattle.program_defs.specs.Visits.{targets_of_all, not_among, levels_to, through_level, up_to, visits_to}
use Rattle.program_defs.specs.Walks.{passing_of}
use Rattle.program_defs.specs.Searching.{IsOnce}
use Rattle.program_defs.proofs.Levels.{new-in-level}
use Rattle.program_defs.proofs.Members.{among-cases, among-right}
use Rattle.program_defs.proofs.Sets.{IsSet, as_set-set, not-below-itself, head-in}
use Rattle.program_defs.proofs.VisitsAgree.{up-to-only}

-- in a list whose names rise no name comes twice
pub set-once : (xs : List Name) → IsSet xs → IsOnce xs
set-once [] s = tt
set-once (x ∷ xs) s = (false_from_ne_true _ (λ k. not-below-itself x (s.0 x k)), set-once xs s.1)

lacks-append : (xs ys : List Name) (v : Name) → is_among xs v ≡ false → is_among ys v ≡ false → is_among (xs ++ ys) v ≡ false
lacks-append xs ys v h g = false_from_ne_true _ (λ k. elim (among-cases xs ys v k) [ inl a ↦ both_ways _ h a | inr b ↦ both_ways _ g b ])

-- two lists joined have no name twice if neither has, and no name of the second is in the first
pub once-append : (xs ys : List Name) → IsOnce xs → IsOnce ys → ((v : Name) → IsTrue (is_among ys v) → is_among xs v ≡ false) → IsOnce (xs ++ ys)
once-append [] ys a b apart = b
once-append (x ∷ xs) ys a b apart = (
  lacks-append xs ys x a.0 (false_from_ne_true _ (λ k. both_ways _ ((or_parts (same_name x x) _ (apart x k)).0) (same_name-refl x))),
  once-append xs ys a.1 b (λ v k. (or_parts (same_name x v) _ (apart v k)).1),
)

-- a name is new to those before it
pub new-after : (xs : List Name) (x : Name) (ys : List Name) → IsOnce (xs ++ x ∷ ys) → is_among xs x ≡ false
new-after [] x ys once = refl
new-after (y ∷ xs) x ys once = false_from_ne_true _ (λ k. elim (or_cases (same_name y x) _ k) [
  | inl same ↦ both_ways _ once.0 (subst (λ z. IsTrue (is_among (xs ++ x ∷ ys) z)) (sym (one_name y x same)) (among-right xs (x ∷ ys) x (head-in x ys)))
  | inr more ↦ both_ways _ (new-after xs x ys once.1) more
])

-- if no name comes twice, none comes twice in the names up to a target
pub up_to-once : (to : Name) (xs : List Name) → IsOnce xs → IsOnce (up_to to xs)
up_to-once to [] once = tt
up_to-once to (x ∷ xs) once = at (same_name to x) (up_to-once to xs once.1)
  where
    at : (b : Bool) → IsOnce (up_to to xs) → IsOnce (if b then x ∷ [] else x ∷ up_to to xs)
    at true rest = (refl, tt)
    at false rest = (false_from_ne_true _ (λ k. both_ways _ once.0 (up-to-only to xs x k)), rest)

module _ (graph : PlainGraph) (pass : Passing) (from : Name) where
  -- the names of a level rise
  pub level-set : (n : ℕ) → IsSet (levels_to n graph pass from).level
  level-set zero = (λ y k. cc, tt)
  level-set (suc n) = as_set-set (not_among (through_level n graph pass from) (targets_of_all graph pass (levels_to n graph pass from).level))

  -- no vertex comes twice in the levels 0 to n
  pub through-once : (n : ℕ) → IsOnce (through_level n graph pass from)
  through-once zero = (refl, tt)
  through-once (suc n) = once-append (through_level n graph pass from) (levels_to (suc n) graph pass from).level (through-once n) (set-once _ (level-set (suc n))) (new-in-level graph pass from (suc n))

-- no vertex comes twice in a program's list of visits through n levels
pub visits-once : (n : ℕ) (graph : PlainGraph) (program : Program) → IsOnce (visits_to n graph program)
visits-once n graph (Show v) = (refl, tt)
visits-once n graph (Reach from to pass) = up_to-once to _ (through-once graph (passing_of pass) from n)
visits-once n graph (Around from bound pass) = through-once graph (passing_of pass) from bound
visits-once n graph (Path from to bound pass) = up_to-once to _ (through-once graph (passing_of pass) from bound)
visits-once n graph (Price from to key) = through-once graph (Priced key) from n
