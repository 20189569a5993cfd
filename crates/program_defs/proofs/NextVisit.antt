-- The list of visits of what was read is complete after as many levels as there are reads.
-- Used by `next_visit_misses_none`, Answering, Asking, Cutting, Ending, GoingOn, Listing, Onward, Pathing, ReadOrder
-- and Searched.
use Rattle.std.proofs.Common.{append-nil, ◌≡◌, ℕ, zero, suc, ◌+◌, ◌-◌, ◌<◌, ◌≤◌, Bool, true, false, cond, List, [], ◌∷◌, ◌++◌, IsTrue, length, refl, sym, ap, subst, ◌∙◌, inl, inr, arith}
use Rattle.std.specs.Prelude.{is_some, if◌then◌else◌}
use Rattle.std.specs.List.{filter}
use Rattle.std.specs.Map.{keys_of}
use Rattle.std.proofs.lemmas.Bool.{cases_lt, or_cases, or_left, or_right}
use Rattle.weave_data.specs.Names.{same_name, one_name}
use Rattle.weave_data.specs.declared.name.Name.{Name}
use Rattle.graph_ops.specs.Mentions.{is_among}
use Rattle.graph_ops.specs.Operations.{State}
use Rattle.graph_ops.specs.PlainGraph.{PlainGraph}
use Rattle.program_defs.specs.declared.passing.Passing.{Passing}
use Rattle.program_defs.specs.declared.passing.Passing.TheVariants.{Priced}
use Rattle.program_defs.specs.declared.program.Program.{Program}
use Rattle.program_defs.specs.declared.program.Program.TheVariants.{Show, Reach, Around, Path, Price}
use Rattle.program_defs.specs.Walks.{passing_of}
use Rattle.program_defs.specs.Visits.{levels_to, through_level, up_to, visits_to, IsListOfVisits, graph_read}
use Rattle.program_defs.proofs.Members.{among-left, among-right, target-of}
use Rattle.program_defs.proofs.Levels.{source-before, new-in-level, no-member}

-- what is there was read
pub read-there : (reads : List (Name × State)) (v : Name) → IsTrue (is_some (graph_read reads v)) → IsTrue (is_among (keys_of reads) v)
read-there [] v h = cc
read-there (read ∷ reads) v h = here (same_name read.0 v) refl (read-there reads v) h
  where
    here : (b : Bool) → same_name read.0 v ≡ b → (IsTrue (is_some (graph_read reads v)) → IsTrue (is_among (keys_of reads) v))
        → IsTrue (is_some (cond b read.1 (graph_read reads v))) → IsTrue (is_among (keys_of (read ∷ reads)) v)
    here true is rest g = or_left _ _ is
    here false is rest g = or_right _ _ (rest g)

-- how many pass a test
abbrev pub count : (Name → Bool) → List Name → ℕ
count p xs = length (filter p xs)

count-within : (p : Name → Bool) (xs : List Name) → count p xs ≤ length xs
count-within p [] = omega arith
count-within p (x ∷ xs) = kept (p x) (count-within p xs)
  where
    kept : (b : Bool) → count p xs ≤ length xs → length (cond b (x ∷ filter p xs) (filter p xs)) ≤ suc (length xs)
    kept true le = omega (arith, le)
    kept false le = omega (arith, le)

-- a wider test passes at least as many
count-wider : (p q : Name → Bool) → ((v : Name) → IsTrue (p v) → IsTrue (q v)) → (xs : List Name) → count p xs ≤ count q xs
count-wider p q wider [] = omega arith
count-wider p q wider (x ∷ xs) = kept (p x) (q x) (wider x) (count-wider p q wider xs)
  where
    kept : (b c : Bool) → (IsTrue b → IsTrue c) → count p xs ≤ count q xs → length (cond b (x ∷ filter p xs) (filter p xs)) ≤ length (cond c (x ∷ filter q xs) (filter q xs))
    kept true true f le = omega (arith, le)
    kept true false f le = let h = f refl in cc
    kept false true f le = omega (arith, le)
    kept false false f le = le

-- and more if it passes a further one of them
pub count-more : (p q : Name → Bool) → ((v : Name) → IsTrue (p v) → IsTrue (q v)) → (xs : List Name) (v : Name) → IsTrue (is_among xs v) → p v ≡ false → IsTrue (q v) → count p xs < count q xs
count-more p q wider [] v among before after = cc
count-more p q wider (x ∷ xs) v among before after =
    elim (or_cases (same_name x v) _ among) [
      | inl same ↦
          let is = sym (one_name x v same) in
          here (p x) (q x) (subst (λ y. p y ≡ false) is before) (subst (λ y. IsTrue (q y)) is after) (count-wider p q wider xs)
      | inr more ↦ later (p x) (q x) (wider x) (count-more p q wider xs v more before after)
    ]
  where
    here : (b c : Bool) → b ≡ false → IsTrue c → count p xs ≤ count q xs → length (cond b (x ∷ filter p xs) (filter p xs)) < length (cond c (x ∷ filter q xs) (filter q xs))
    here true c e f le = cc
    here false true e f le = omega (arith, le)
    here false false e f le = cc

    later : (b c : Bool) → (IsTrue b → IsTrue c) → count p xs < count q xs → length (cond b (x ∷ filter p xs) (filter p xs)) < length (cond c (x ∷ filter q xs) (filter q xs))
    later true true f lt = omega (arith, lt)
    later true false f lt = let h = f refl in cc
    later false true f lt = omega (arith, lt)
    later false false f lt = lt

length-keys : (reads : List (Name × State)) → length (keys_of reads) ≡ length reads
length-keys [] = refl
length-keys (read ∷ reads) = ap suc (length-keys reads)

-- the names up to a target, of a list and of a longer one
up_to-longer : (target : Name) (xs more : List Name) (v : Name) → IsTrue (is_among (up_to target xs) v) → IsTrue (is_among (up_to target (xs ++ more)) v)
up_to-longer target [] more v h = cc
up_to-longer target (x ∷ xs) more v h = cut (same_name target x) (up_to-longer target xs more v) h
  where
    cut : (b : Bool) → (IsTrue (is_among (up_to target xs) v) → IsTrue (is_among (up_to target (xs ++ more)) v))
        → IsTrue (is_among (if b then x ∷ [] else x ∷ up_to target xs) v) → IsTrue (is_among (if b then x ∷ [] else x ∷ up_to target (xs ++ more)) v)
    cut true rest g = g
    cut false rest g = elim (or_cases (same_name x v) _ g) [ inl same ↦ or_left _ _ same | inr later ↦ or_right _ _ (rest later) ]

module _ (reads : List (Name × State)) (pass : Passing) (from : Name) where
  abbrev read : PlainGraph
  read = graph_read reads

  -- each level before one that isn't empty has a vertex that was read
  levels-read : (n : ℕ) (v : Name) → IsTrue (is_among (levels_to n read pass from).level v) → n ≤ count (is_among (levels_to n read pass from).before) (keys_of reads)
  levels-read zero v h = omega arith
  levels-read (suc n) v h =
      let source = source-before read pass from n v h in
      let u = source.0 in
      let earlier = levels-read n u source.1.among in
      let was_read = read-there reads u (target-of pass (read u) v source.1.edge) in
      let more = count-more (is_among (levels_to n read pass from).before) (is_among (through_level n read pass from))
      (λ w. among-left (levels_to n read pass from).before _ w) (keys_of reads) u was_read (new-in-level read pass from n u source.1.among)
      (among-right (levels_to n read pass from).before _ u source.1.among) in
      omega (arith, earlier, more)

  -- so a later level is empty
  level-empty : (n : ℕ) → length reads < n → (levels_to n read pass from).level ≡ []
  level-empty n more =
      no-member _ (λ v h.
      let least = levels-read n v h in
      let most = count-within (is_among (levels_to n read pass from).before) (keys_of reads) in
      let as_many : length (keys_of reads) ≡ length reads = length-keys reads in
      omega (arith, least, most, as_many, more))

  -- after as many levels as reads there is nothing more
  through-same : (k : ℕ) → through_level (k + length reads) read pass from ≡ through_level (length reads) read pass from
  through-same zero = let e : 0 + length reads ≡ length reads = omega arith in ap (λ m. through_level m read pass from) e
  through-same (suc k) =
      let e : suc k + length reads ≡ suc (k + length reads) = omega arith in
      let empty = level-empty (suc (k + length reads)) (omega arith) in
      ap (λ m. through_level m read pass from) e
      ∙ ap (λ xs. through_level (k + length reads) read pass from ++ xs) empty
      ∙ append-nil (through_level (k + length reads) read pass from)
      ∙ through-same k

  -- what is in the levels to n is in the levels to the number of reads
  through-whole : (n : ℕ) (v : Name) → IsTrue (is_among (through_level n read pass from) v) → IsTrue (is_among (through_level (length reads) read pass from) v)
  through-whole n v h =
      elim (cases_lt n (length reads)) [
        | inl fewer ↦
            let e : (length reads - n) + n ≡ length reads = omega (arith, fewer) in
            subst (λ m. IsTrue (is_among (through_level m read pass from) v)) e (longer (length reads - n))
        | inr more ↦
            let e : n ≡ (n - length reads) + length reads = omega (arith, more) in
            subst (λ xs. IsTrue (is_among xs v)) (ap (λ m. through_level m read pass from) e ∙ through-same (n - length reads)) h
      ]
    where
      longer : (k : ℕ) → IsTrue (is_among (through_level (k + n) read pass from) v)
      longer zero = let e : n ≡ 0 + n = omega arith in subst (λ m. IsTrue (is_among (through_level m read pass from) v)) e h
      longer (suc k) =
          let e : suc (k + n) ≡ suc k + n = omega arith in
          subst (λ m. IsTrue (is_among (through_level m read pass from) v)) e (among-left (through_level (k + n) read pass from) _ v (longer k))

  -- what is before the target in the levels to n is so in the levels to the number of reads
  up_to-whole : (target : Name) (n : ℕ) (v : Name) → IsTrue (is_among (up_to target (through_level n read pass from)) v) → IsTrue (is_among (up_to target (through_level (length reads) read pass from)) v)
  up_to-whole target n v h =
      elim (cases_lt n (length reads)) [
        | inl fewer ↦
            let e : (length reads - n) + n ≡ length reads = omega (arith, fewer) in
            subst (λ m. IsTrue (is_among (up_to target (through_level m read pass from)) v)) e (longer (length reads - n))
        | inr more ↦
            let e : n ≡ (n - length reads) + length reads = omega (arith, more) in
            subst (λ xs. IsTrue (is_among (up_to target xs) v)) (ap (λ m. through_level m read pass from) e ∙ through-same (n - length reads)) h
      ]
    where
      longer : (k : ℕ) → IsTrue (is_among (up_to target (through_level (k + n) read pass from)) v)
      longer zero = let e : n ≡ 0 + n = omega arith in subst (λ m. IsTrue (is_among (up_to target (through_level m read pass from)) v)) e h
      longer (suc k) =
          let e : suc (k + n) ≡ suc k + n = omega arith in
          subst (λ m. IsTrue (is_among (up_to target (through_level m read pass from)) v)) e (up_to-longer target (through_level (k + n) read pass from) _ v (longer k))

-- on the graph of what was read, the visits through as many levels as there are reads are the complete list
pub visits-of-reads : (reads : List (Name × State)) (program : Program) → IsListOfVisits (graph_read reads) program (visits_to (length reads) (graph_read reads) program)
visits-of-reads reads program = record { last_level = length reads; in_turn = refl; whole = λ v h. visited program h.0 v h.1 }
  where
    visited : (program : Program) (n : ℕ) (v : Name) → IsTrue (is_among (visits_to n (graph_read reads) program) v) → IsTrue (is_among (visits_to (length reads) (graph_read reads) program) v)
    visited (Show v) n w h = h
    visited (Reach start to pass) n w h = up_to-whole reads (passing_of pass) start to n w h
    visited (Around start bound pass) n w h = h
    visited (Path start to bound pass) n w h = h
    visited (Price start to key) n w h = through-whole reads (Priced key) start n w h
