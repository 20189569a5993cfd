-- A program's list of visits as the levels up to its target.
-- Used by Answering, Ending and Searched.
use Rattle.std.proofs.Common.{◌≡◌, ℕ, ◌+◌, ◌-◌, ◌≤◌, true, List, [], ◌∷◌, ◌++◌, IsTrue, length, refl, sym, ap, subst, ◌∙◌, Option, Some, None, arith}
use Rattle.weave_data.specs.declared.name.Name.{Name}
use Rattle.graph_ops.specs.Mentions.{is_among}
use Rattle.graph_ops.specs.Operations.{State}
use Rattle.graph_ops.specs.PlainGraph.{PlainGraph}
use Rattle.program_defs.specs.declared.program.Program.{Program}
use Rattle.program_defs.specs.declared.program.Program.TheVariants.{Show, Reach, Around, Path, Price}
use Rattle.program_defs.specs.declared.aim.Aim.{Aim}
use Rattle.program_defs.specs.declared.passing.Passing.TheVariants.{Priced}
use Rattle.program_defs.specs.Searching.{aim_of, IsLeft, IsTargetNotIn}
use Rattle.program_defs.specs.Visits.{through_level, up_to, visits_to, graph_read}
use Rattle.program_defs.specs.Walks.{passing_of, is_value}
use Rattle.program_defs.proofs.NextVisit.{visits-of-reads}
use Rattle.program_defs.proofs.OneList.{not-there, first-there, goes-on, visits-whole}
use Rattle.program_defs.proofs.Sets.{head-in}
use Rattle.program_defs.proofs.VisitsAgree.{up-to-only}

-- the names up to the target, if there is one
abbrev pub cut : Option Name → List Name → List Name
cut None xs = xs
cut (Some to) xs = up_to to xs

-- if the target isn't in the first list, the names up to it are this list and those of the second up to it
pub cut-free : (target : Option Name) (xs ys : List Name) → IsTargetNotIn target xs → cut target (xs ++ ys) ≡ xs ++ cut target ys
cut-free None xs ys free = refl
cut-free (Some to) xs ys free = not-there to xs ys free

-- each of the names up to the target is among all the names
pub cut-only : (target : Option Name) (xs : List Name) (v : Name) → IsTrue (is_among (cut target xs) v) → IsTrue (is_among xs v)
cut-only None xs v k = k
cut-only (Some to) xs v k = up-to-only to xs v k

-- the first name is among those up to the target
pub cut-first : (target : Option Name) (x : Name) (xs : List Name) → IsTrue (is_among (cut target (x ∷ xs)) x)
cut-first None x xs = head-in x xs
cut-first (Some to) x xs = first-there to x xs

-- a list that begins with the target is cut to its first name
pub cut-here : (target : Option Name) (x : Name) (xs : List Name) → is_value target x ≡ true → cut target (x ∷ xs) ≡ x ∷ []
cut-here None x xs e = cc
cut-here (Some to) x xs e = rw e refl

-- the list of visits is that of some level from n on
pub record IsCutAt (reads : List (Name × State)) (program : Program) (aim : Aim) (n : ℕ) : Type 0 where
  pub last : ℕ
  pub later : n ≤ last
  pub is : visits_to (length reads) (graph_read reads) program ≡ cut aim.target (through_level last (graph_read reads) aim.pass aim.from)

-- if level n is within the bound, the list of visits of a program that searches is that of level n or of a later one
pub cut-at : (reads : List (Name × State)) (program : Program) (aim : Aim) (n : ℕ) (left : Option ℕ) → aim_of program ≡ Some aim → IsLeft aim.bound n left → IsCutAt reads program aim n
cut-at reads (Show v) aim n left e l = cc
cut-at reads (Reach from to pass) aim n left e l =
    let is : record { from = from; target = Some to; bound = None; pass = passing_of pass } ≡ aim = cc in
    subst (λ a. IsCutAt reads (Reach from to pass) a n) is (record {
      last = n + length reads;
      later = omega arith;
      is = sym (visits-whole (graph_read reads) (Reach from to pass) (length reads) n (visits-of-reads reads (Reach from to pass)).whole);
    })
cut-at reads (Around from bound pass) aim n left e l =
    let is : record { from = from; target = None; bound = Some bound; pass = passing_of pass } ≡ aim = cc in
    subst (λ a. IsCutAt reads (Around from bound pass) a n) is (record { last = bound; later = within bound left (subst (λ a. IsLeft a.bound n left) (sym is) l); is = refl })
  where
    within : (bound : ℕ) (left : Option ℕ) → IsLeft (Some bound) n left → n ≤ bound
    within bound None l = absurd l
    within bound (Some k) l = omega (arith, l)
cut-at reads (Path from to bound pass) aim n left e l =
    let is : record { from = from; target = Some to; bound = Some bound; pass = passing_of pass } ≡ aim = cc in
    subst (λ a. IsCutAt reads (Path from to bound pass) a n) is (record { last = bound; later = within bound left (subst (λ a. IsLeft a.bound n left) (sym is) l); is = refl })
  where
    within : (bound : ℕ) (left : Option ℕ) → IsLeft (Some bound) n left → n ≤ bound
    within bound None l = absurd l
    within bound (Some k) l = omega (arith, l)
cut-at reads (Price from to key) aim n left e l =
    let is : record { from = from; target = None; bound = None; pass = Priced key } ≡ aim = cc in
    subst (λ a. IsCutAt reads (Price from to key) a n) is (record {
      last = n + length reads;
      later = omega arith;
      is = sym (visits-whole (graph_read reads) (Price from to key) (length reads) n (visits-of-reads reads (Price from to key)).whole);
    })

-- and no later one if the bound is reached
pub cut-at-bound : (reads : List (Name × State)) (program : Program) (aim : Aim) (n : ℕ) → aim_of program ≡ Some aim → IsLeft aim.bound n (Some 0)
    → visits_to (length reads) (graph_read reads) program ≡ cut aim.target (through_level n (graph_read reads) aim.pass aim.from)
cut-at-bound reads (Show v) aim n e l = cc
cut-at-bound reads (Reach from to pass) aim n e l =
    let is : record { from = from; target = Some to; bound = None; pass = passing_of pass } ≡ aim = cc in
    absurd (subst (λ a. IsLeft a.bound n (Some 0)) (sym is) l)
cut-at-bound reads (Around from bound pass) aim n e l =
    let is : record { from = from; target = None; bound = Some bound; pass = passing_of pass } ≡ aim = cc in
    let here : 0 + n ≡ bound = subst (λ a. IsLeft a.bound n (Some 0)) (sym is) l in
    let same : bound ≡ n = omega (arith, here) in
    subst (λ a. visits_to (length reads) (graph_read reads) (Around from bound pass) ≡ cut a.target (through_level n (graph_read reads) a.pass a.from)) is (ap (λ m. through_level m (graph_read reads) (passing_of pass) from) same)
cut-at-bound reads (Path from to bound pass) aim n e l =
    let is : record { from = from; target = Some to; bound = Some bound; pass = passing_of pass } ≡ aim = cc in
    let here : 0 + n ≡ bound = subst (λ a. IsLeft a.bound n (Some 0)) (sym is) l in
    let same : bound ≡ n = omega (arith, here) in
    subst (λ a. visits_to (length reads) (graph_read reads) (Path from to bound pass) ≡ cut a.target (through_level n (graph_read reads) a.pass a.from)) is (ap (λ m. up_to to (through_level m (graph_read reads) (passing_of pass) from)) same)
cut-at-bound reads (Price from to key) aim n e l =
    let is : record { from = from; target = None; bound = None; pass = Priced key } ≡ aim = cc in
    absurd (subst (λ a. IsLeft a.bound n (Some 0)) (sym is) l)

-- the levels to a later one begin with those to this one
pub begins : (graph : PlainGraph) (aim : Aim) (n last : ℕ) → n ≤ last → (more : List Name) × (through_level last graph aim.pass aim.from ≡ through_level n graph aim.pass aim.from ++ more)
begins graph aim n last le =
    let rest = goes-on graph aim.pass aim.from (last - n) n in
    let e : last - n + n ≡ last = omega (arith, le) in
    (rest.0, ap (λ k. through_level k graph aim.pass aim.from) (sym e) ∙ rest.1)
