-- If graphs agree on the first vertices of a list of visits, the next one is the same.
-- Used by `visits_are_asked_for`, Answering, Feeding and GoingOn.
use Rattle.std.proofs.Common.{append-nil, append_assoc, ◌≡◌, ℕ, zero, suc, ◌+◌, Bool, true, false, not, List, [], ◌∷◌, ◌++◌, IsTrue, length, refl, sym, ap, subst, ◌∙◌, Some, ◌⊎◌, inl, inr, arith}
use Rattle.std.specs.Prelude.{if◌then◌else◌}
use Rattle.std.specs.List.{find}
use Rattle.std.specs.Map.{keys_of}
use Rattle.std.proofs.lemmas.Bool.{or_cases, or_left, or_right, both_ways}
use Rattle.weave_data.specs.Names.{same_name, one_name}
use Rattle.weave_data.specs.declared.name.Name.{Name}
use Rattle.graph_ops.specs.Mentions.{is_among}
use Rattle.graph_ops.specs.PlainGraph.{PlainGraph}
use Rattle.graph_ops.proofs.Vertices.{same_name-refl}
use Rattle.graph_ops.proofs.States.{same_name-sym}
use Rattle.program_defs.specs.declared.passing.Passing.{Passing}
use Rattle.program_defs.specs.declared.passing.Passing.TheVariants.{Priced}
use Rattle.program_defs.specs.declared.program.Program.{Program}
use Rattle.program_defs.specs.declared.program.Program.TheVariants.{Show, Reach, Around, Path, Price}
use Rattle.program_defs.specs.Agreement.{Agree}
use Rattle.program_defs.specs.Walks.{passing_of}
use Rattle.program_defs.specs.Visits.{levels_to, names_through, through_level, up_to, visits_to, IsListOfVisits, graph_read, next_visit, states_at, first_of}
use Rattle.program_defs.proofs.Members.{among-left}
use Rattle.program_defs.proofs.NextVisit.{visits-of-reads}
use Rattle.program_defs.proofs.Once.{visits-once, new-after}
use Rattle.program_defs.specs.Searching.{IsOnce}
use Rattle.program_defs.proofs.OneList.{not-there, visits-whole}
use Rattle.program_defs.proofs.VisitsAgree.{next-levels, same-up-to}

-- Two splits of a list

pub record IsLonger (xs ys us ws : List Name) : Type 0 where
  pub more : List Name
  pub first : us ≡ xs ++ more
  pub second : ys ≡ more ++ ws

pub record IsShorter (xs ys us ws : List Name) : Type 0 where
  pub next : Name
  pub more : List Name
  pub first : xs ≡ us ++ next ∷ more
  pub second : ws ≡ next ∷ more ++ ys

splits : (xs ys us ws : List Name) → xs ++ ys ≡ us ++ ws → IsLonger xs ys us ws ⊎ IsShorter xs ys us ws
splits [] ys us ws e = inl (record { more = us; first = refl; second = e })
splits (x ∷ xs) ys [] ws e = inr (record { next = x; more = xs; first = refl; second = sym e })
splits (x ∷ xs) ys (a ∷ us) ws e =
    let head : x ≡ a = cc in
    let tail : xs ++ ys ≡ us ++ ws = cc in
    elim (splits xs ys us ws tail) [
      | inl l ↦ inl (record { more = l.more; first = ap (λ y. y ∷ us) (sym head) ∙ ap (λ ys'. x ∷ ys') l.first; second = l.second })
      | inr s ↦ inr (record { next = s.next; more = s.more; first = ap (λ y. y ∷ xs) head ∙ ap (λ ys'. a ∷ ys') s.first; second = s.second })
    ]

-- a list of another graph goes on as this one
pub record GoesOn (other done rest : List Name) : Type 0 where
  pub rest' : List Name
  pub is : other ≡ done ++ rest'
  pub next : first_of rest ≡ first_of rest'

first-append : (x : Name) (xs ys : List Name) → Some x ≡ first_of xs → Some x ≡ first_of (xs ++ ys)
first-append x [] ys e = cc
first-append x (y ∷ xs) ys e = e

module _ (g h : PlainGraph) (pass : Passing) (from : Name) where
  through-onward : (n : ℕ) (done rest : List Name) → through_level n g pass from ≡ done ++ rest → Agree g h done → GoesOn (through_level n h pass from) done rest
  through-onward zero done rest is agree = record { rest' = rest; is = is; next = refl }
  through-onward (suc n) done rest is agree =
      elim (splits (through_level n g pass from) (levels_to (suc n) g pass from).level done rest is) [
        | inl l ↦ record { rest' = rest; is = sym (ap names_through (next-levels g h pass from n (λ v k. agree v (subst (λ xs. IsTrue (is_among xs v)) (sym l.first) (among-left (through_level n g pass from) l.more v k))))) ∙ is; next = refl }
        | inr s ↦ (
            let earlier = through-onward n done (s.next ∷ s.more) s.first agree in
            record {
              rest' = earlier.rest' ++ (levels_to (suc n) h pass from).level;
              is = ap (λ xs. xs ++ (levels_to (suc n) h pass from).level) earlier.is ∙ append_assoc done earlier.rest' (levels_to (suc n) h pass from).level;
              next = ap first_of s.second ∙ first-append s.next earlier.rest' (levels_to (suc n) h pass from).level earlier.next;
            })
      ]

-- Up to a target

pub record IsUncut (to : Name) (xs done : List Name) (x : Name) : Type 0 where
  pub more : List Name
  pub is : xs ≡ done ++ x ∷ more
  pub free : is_among done to ≡ false

uncut : (to : Name) (xs done : List Name) (x : Name) (rest : List Name) → up_to to xs ≡ done ++ x ∷ rest → IsUncut to xs done x
uncut to [] [] x rest e = cc
uncut to [] (d ∷ done) x rest e = cc
uncut to (y ∷ ys) [] x rest e = at (same_name to y) e
  where
    at : (b : Bool) → (if b then y ∷ [] else y ∷ up_to to ys) ≡ x ∷ rest → IsUncut to (y ∷ ys) [] x
    at true e = let is : y ≡ x = cc in record { more = ys; is = ap (λ z. z ∷ ys) is; free = refl }
    at false e = let is : y ≡ x = cc in record { more = ys; is = ap (λ z. z ∷ ys) is; free = refl }
uncut to (y ∷ ys) (d ∷ done) x rest e = at (same_name to y) refl e (uncut to ys done x rest)
  where
    none : (done : List Name) → ¬ ([] ≡ done ++ x ∷ rest)
    none [] e = cc
    none (d ∷ done) e = cc

    at : (b : Bool) → same_name to y ≡ b → (if b then y ∷ [] else y ∷ up_to to ys) ≡ d ∷ done ++ x ∷ rest → (up_to to ys ≡ done ++ x ∷ rest → IsUncut to ys done x) → IsUncut to (y ∷ ys) (d ∷ done) x
    at true is e later = let tail : [] ≡ done ++ x ∷ rest = cc in absurd (none done tail)
    at false is e later =
        let head : y ≡ d = cc in
        let tail : up_to to ys ≡ done ++ x ∷ rest = cc in
        let u = later tail in
        let lacks : same_name d to ≡ false = same_name-sym d to ∙ ap (same_name to) (sym head) ∙ is in
        record { more = u.more; is = ap (λ z. z ∷ ys) head ∙ ap (λ zs. d ∷ zs) u.is; free = rw lacks u.free }

-- the first name of a list is the first of its names up to a target
pub first-cut : (to x : Name) (xs : List Name) → Some x ≡ first_of (up_to to (x ∷ xs))
first-cut to x xs = at (same_name to x)
  where
    at : (b : Bool) → Some x ≡ first_of (if b then x ∷ [] else x ∷ up_to to xs)
    at true = refl
    at false = refl

cut-onward : (g h : PlainGraph) (pass : Passing) (from to : Name) (n : ℕ) (done rest : List Name) → up_to to (through_level n g pass from) ≡ done ++ rest → Agree g h done → GoesOn (up_to to (through_level n h pass from)) done rest
cut-onward g h pass from to n done [] is agree =
    let whole : up_to to (through_level n g pass from) ≡ done = is ∙ append-nil done in
    record { rest' = []; is = sym (same-up-to g h pass from to n (λ v k. agree v (subst (λ xs. IsTrue (is_among xs v)) whole k))) ∙ is; next = refl }
cut-onward g h pass from to n done (x ∷ rest) is agree =
    let u = uncut to (through_level n g pass from) done x rest is in
    onward u.more u.free (through-onward g h pass from n done (x ∷ u.more) u.is agree)
  where
    onward : (more : List Name) → is_among done to ≡ false → GoesOn (through_level n h pass from) done (x ∷ more) → GoesOn (up_to to (through_level n h pass from)) done (x ∷ rest)
    onward more free later =
        record {
          rest' = up_to to later.rest';
          is = ap (up_to to) later.is ∙ not-there to done later.rest' free;
          next = at later.rest' later.next;
        }
      where
        at : (xs : List Name) → Some x ≡ first_of xs → Some x ≡ first_of (up_to to xs)
        at [] e = cc
        at (y ∷ ys) e = e ∙ first-cut to y ys

-- if a graph agrees with another on its first visits, the other's list begins with them, and the next visit is the same
pub visits-onward : (g h : PlainGraph) (program : Program) (n : ℕ) (done rest : List Name) → visits_to n g program ≡ done ++ rest → Agree g h done → GoesOn (visits_to n h program) done rest
visits-onward g h (Show v) n done rest is agree = record { rest' = rest; is = is; next = refl }
visits-onward g h (Reach from to pass) n done rest is agree = cut-onward g h (passing_of pass) from to n done rest is agree
visits-onward g h (Around from bound pass) n done rest is agree = through-onward g h (passing_of pass) from bound done rest is agree
visits-onward g h (Path from to bound pass) n done rest is agree = cut-onward g h (passing_of pass) from to bound done rest is agree
visits-onward g h (Price from to key) n done rest is agree = through-onward g h (Priced key) from n done rest is agree

-- The states of a graph

-- the states that a graph has at some vertices are of just these vertices, in their order
pub states-keys : (graph : PlainGraph) (vs : List Name) → keys_of (states_at graph vs) ≡ vs
states-keys graph [] = refl
states-keys graph (v ∷ vs) = ap (λ xs. v ∷ xs) (states-keys graph vs)

-- what is read at some vertices of a graph agrees there with the graph
pub states-agree : (graph : PlainGraph) (vs : List Name) → Agree graph (graph_read (states_at graph vs)) vs
states-agree graph [] v k = cc
states-agree graph (x ∷ xs) v k = at (same_name x v) refl (states-agree graph xs v)
  where
    at : (b : Bool) → same_name x v ≡ b → (IsTrue (is_among xs v) → graph v ≡ graph_read (states_at graph xs) v) → graph v ≡ (if b then graph x else graph_read (states_at graph xs) v)
    at true is rest = ap graph (sym (one_name x v is))
    at false is rest = elim (or_cases (same_name x v) _ k) [ inl same ↦ absurd (both_ways _ is same) | inr more ↦ rest more ]

-- the first that isn't among those done
pub find-next : (keys done rest : List Name) → ((v : Name) → IsTrue (is_among done v) → IsTrue (is_among keys v)) → ((x : Name) → first_of rest ≡ Some x → is_among keys x ≡ false) → find (λ v. not (is_among keys v)) (done ++ rest) ≡ first_of rest
find-next keys [] [] all new = refl
find-next keys [] (x ∷ rest) all new = rw (new x refl) refl
find-next keys (d ∷ done) rest all new = rw (all d (or_left _ _ (same_name-refl d))) (find-next keys done rest (λ v k. all v (or_right (same_name d v) _ k)) new)

-- when the first visits on a graph are read, the next visit is the first of the rest, if there is one
pub next-of-visits : (graph : PlainGraph) (program : Program) (visits done rest : List Name) → IsListOfVisits graph program visits → visits ≡ done ++ rest → next_visit (states_at graph done) program ≡ first_of rest
next-of-visits graph program visits done rest list split =
    let reads = states_at graph done in
    let read : PlainGraph = graph_read reads in
    let count : ℕ = length reads in
    let n = list.last_level in
    let here : visits_to (count + n) graph program ≡ done ++ rest =
    visits-whole graph program n count (λ v k. subst (λ xs. IsTrue (is_among xs v)) list.in_turn (list.whole v k)) ∙ sym list.in_turn ∙ split in
    let on = visits-onward graph read program (count + n) done rest here (states-agree graph done) in
    let swap : count + n ≡ n + count = omega arith in
    let last : visits_to count read program ≡ done ++ on.rest' =
    sym (visits-whole read program count n (visits-of-reads reads program).whole) ∙ ap (λ m. visits_to m read program) (sym swap) ∙ on.is in
    ap (find (λ v. not (is_among (keys_of reads) v))) last
    ∙ ap (λ keys. find (λ v. not (is_among keys v)) (done ++ on.rest')) (states-keys graph done)
    ∙ find-next done done on.rest' (λ v k. k) (λ x first. new x on.rest' first (subst IsOnce last (visits-once count read program)))
    ∙ sym on.next
  where
    new : (x : Name) (rest : List Name) → first_of rest ≡ Some x → IsOnce (done ++ rest) → is_among done x ≡ false
    new x [] e once = cc
    new x (y ∷ rest) e once = let same : y ≡ x = cc in subst (λ z. is_among done z ≡ false) same (new-after done y rest once)
