-- If the reads are a program's first n visits, a read of its next vertex, anywhere in the list, makes them its first
-- n + 1.
-- Used by `visits_go_on` and crate weaver_core.
use Rattle.std.proofs.Common.{◌≡◌, ℕ, zero, suc, ◌+◌, Bool, true, false, not, ◌||◌, List, [], ◌∷◌, ◌++◌, IsTrue, length, take, drop, refl, sym, ap, subst, ◌∙◌, Some, inl, inr, arith}
use Rattle.std.specs.Prelude.{if◌then◌else◌}
use Rattle.std.specs.List.{find}
use Rattle.std.specs.Map.{keys_of}
use Rattle.std.proofs.lemmas.Bool.{or_cases, or_left, or_right, both_ways, false_from_ne_true}
use Rattle.std.proofs.lemmas.List.{take-append-drop}
use Rattle.weave_data.specs.Names.{same_name, one_name}
use Rattle.weave_data.specs.declared.name.Name.{Name}
use Rattle.graph_ops.specs.Mentions.{is_among}
use Rattle.graph_ops.specs.Operations.{State}
use Rattle.program_defs.specs.declared.program.Program.{Program}
use Rattle.program_defs.specs.Agreement.{Agree}
use Rattle.program_defs.specs.Searching.{IsOnce}
use Rattle.program_defs.specs.Visits.{AreFirstVisits, visits_to, graph_read, next_visit, first_of}
use Rattle.program_defs.proofs.Members.{among-left, among-right, among-cases}
use Rattle.program_defs.proofs.NextVisit.{visits-of-reads}
use Rattle.program_defs.proofs.Once.{visits-once, new-after}
use Rattle.program_defs.proofs.OneList.{visits-whole}
use Rattle.program_defs.proofs.Onward.{GoesOn, visits-onward, find-next}

-- One more read

-- a vertex is among the reads with one more if it is that one or among the others
pub key-added : (front back : List (Name × State)) (v : Name) (state : State) (w : Name) → is_among (keys_of (front ++ (v, state) ∷ back)) w ≡ (same_name v w || is_among (keys_of (front ++ back)) w)
key-added [] back v state w = refl
key-added (read ∷ front) back v state w = ap (λ b. same_name read.0 w || b) (key-added front back v state w) ∙ swapped (same_name read.0 w) (same_name v w) _
  where
    swapped : (a b c : Bool) → (a || (b || c)) ≡ (b || (a || c))
    swapped true true c = refl
    swapped true false c = refl
    swapped false true c = refl
    swapped false false c = refl

read-before : (front back : List (Name × State)) (v : Name) (state : State) (w : Name) → same_name v w ≡ false → graph_read (front ++ (v, state) ∷ back) w ≡ graph_read (front ++ back) w
read-before [] back v state w e = ap (λ b. if b then state else graph_read back w) e
read-before (read ∷ front) back v state w e = ap (λ s. if same_name read.0 w then read.1 else s) (read-before front back v state w e)

one-longer : (front back : List (Name × State)) (v : Name) (state : State) → length (front ++ (v, state) ∷ back) ≡ suc (length (front ++ back))
one-longer [] back v state = refl
one-longer (read ∷ front) back v state = ap suc (one-longer front back v state)

-- Parts of lists

take-full : (n : ℕ) (xs : List Name) (x : Name) (more : List Name) → drop n xs ≡ x ∷ more → length (take n xs) ≡ n
take-full zero xs x more e = refl
take-full (suc n) [] x more e = cc
take-full (suc n) (y ∷ ys) x more e = ap suc (take-full n ys x more e)

take-next : (done : List Name) (x : Name) (more : List Name) → take (suc (length done)) (done ++ x ∷ more) ≡ done ++ x ∷ []
take-next [] x more = refl
take-next (y ∷ done) x more = ap (λ xs. y ∷ xs) (take-next done x more)

first-new : (done rest : List Name) (x : Name) → first_of rest ≡ Some x → IsOnce (done ++ rest) → is_among done x ≡ false
first-new done [] x e once = cc
first-new done (y ∷ rest) x e once = let same : y ≡ x = cc in subst (λ z. is_among done z ≡ false) same (new-after done y rest once)

-- The next visit

module _ (program : Program) (front back : List (Name × State)) (v : Name) (state : State) (first : AreFirstVisits (front ++ back) program) (next : next_visit (front ++ back) program ≡ Some v) where
  abbrev reads : List (Name × State)
  reads = front ++ back

  abbrev now : List (Name × State)
  now = front ++ (v, state) ∷ back

  abbrev visits : List Name
  visits = visits_to (length reads) (graph_read reads) program

  abbrev done : List Name
  done = take (length reads) visits

  abbrev left : List Name
  left = drop (length reads) visits

  split : visits ≡ done ++ left
  split = sym (take-append-drop (length reads) visits)

  once : IsOnce (done ++ left)
  once = subst IsOnce split (visits-once (length reads) (graph_read reads) program)

  next-left : first_of left ≡ Some v
  next-left =
      sym (ap (find (λ w. not (is_among (keys_of reads) w))) split
      ∙ find-next (keys_of reads) done left (λ w k. (first w).1 k) (λ x e. false_from_ne_true _ (λ k. both_ways _ (first-new done left x e once) ((first x).0 k))))
      ∙ next

  fresh : is_among done v ≡ false
  fresh = first-new done left v next-left once

  agree : Agree (graph_read reads) (graph_read now) done
  agree w k = sym (read-before front back v state w (false_from_ne_true _ (λ same. both_ways _ fresh (subst (λ u. IsTrue (is_among done u)) (sym (one_name v w same)) k))))

  onward : (more : List Name) → left ≡ v ∷ more → GoesOn (visits_to (length now) (graph_read now) program) done left
  onward more e =
      let n = length reads in
      let here : visits_to (suc n + n) (graph_read reads) program ≡ done ++ left = visits-whole (graph_read reads) program n (suc n) (visits-of-reads reads program).whole ∙ split in
      let levels : n + length now ≡ suc n + n = let longer = one-longer front back v state in omega (arith, longer) in
      subst (λ xs. GoesOn xs done left)
      (ap (λ m. visits_to m (graph_read now) program) (sym levels) ∙ visits-whole (graph_read now) program (length now) n (visits-of-reads now program).whole)
      (visits-onward (graph_read reads) (graph_read now) program (suc n + n) done left here agree)

  goes : (more : List Name) → left ≡ v ∷ more → (rest : List Name) → visits_to (length now) (graph_read now) program ≡ done ++ rest → first_of rest ≡ Some v → AreFirstVisits now program
  goes more e [] is f w = cc
  goes more e (x ∷ rest) is f w =
      let same : x ≡ v = cc in
      let full : length done ≡ length reads = take-full (length reads) visits v more e in
      let count : length now ≡ suc (length done) = one-longer front back v state ∙ ap suc (sym full) in
      let taken : take (length now) (visits_to (length now) (graph_read now) program) ≡ done ++ v ∷ [] =
      ap (take (length now)) is ∙ ap (λ m. take m (done ++ x ∷ rest)) count ∙ take-next done x rest ∙ ap (λ y. done ++ y ∷ []) same in (
        λ k. subst (λ xs. IsTrue (is_among xs w)) (sym taken) (elim (or_cases (same_name v w) _ (sym (key-added front back v state w) ∙ k)) [
          | inl here ↦ among-right done (v ∷ []) w (or_left _ _ here)
          | inr read ↦ among-left done (v ∷ []) w ((first w).0 read)
        ]),
        λ k. key-added front back v state w ∙ elim (among-cases done (v ∷ []) w (subst (λ xs. IsTrue (is_among xs w)) taken k)) [
          | inl before ↦ or_right (same_name v w) _ ((first w).1 before)
          | inr here ↦ or_left _ _ (elim (or_cases (same_name v w) false here) [ inl is_v ↦ is_v | inr none ↦ cc ])
        ],
      )

  at : (rest : List Name) → left ≡ rest → AreFirstVisits now program
  at [] e = let none : first_of [] ≡ Some v = ap first_of (sym e) ∙ next-left in cc
  at (x ∷ more) e =
      let same : x ≡ v = let f : first_of (x ∷ more) ≡ Some v = ap first_of (sym e) ∙ next-left in cc in
      let is : left ≡ v ∷ more = e ∙ ap (λ y. y ∷ more) same in
      let on = onward more is in
      goes more is on.rest' on.is (sym on.next ∙ next-left)

  -- if reads are a program's first visits, they still are with a read of its next visit anywhere in the list
  pub visits-go-on : AreFirstVisits now program
  visits-go-on = at left refl
