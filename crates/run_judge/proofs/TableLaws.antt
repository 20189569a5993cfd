-- The tables of the last transaction and of the programs since then, after a request is noted.
-- Used by `first_unordered`, `note`, `note_at`, `note_program` and `note_transaction`.
use Rattle.std.proofs.Common.{◌≡◌, ℕ, zero, suc, ◌<◌, length, get_or, arith, Bool, true, false, not, ◌||◌, ◌&&◌, cond, eqb, IsTrue, List, [], ◌∷◌, ◌++◌, Option, Some, refl, sym, ap, ◌∙◌, subst}
use Rattle.std.specs.Prelude.{nat_eq}
use Rattle.std.specs.Option.{unwrap_or}
use Rattle.std.proofs.lemmas.Bool.{or_left, or_right}
use Rattle.weave_data.specs.Names.{same_name}
use Rattle.weave_data.specs.declared.name.Name.{Name}
use Rattle.graph_ops.proofs.Vertices.{same_name-refl}
use Rattle.graph_ops.specs.Mentions.{is_among}
use Rattle.report_rules.specs.Lookups.{is_in}
use Rattle.run_judge.proofs.VisitLaws.{turned}

-- what is looked up where something was taken out, or put in
pub looked_up : {A : Type 0} (b : Bool) (some : Option A) (old : Option A) (d : A) → unwrap_or (cond b some old) d ≡ cond b (unwrap_or some d) (unwrap_or old d)
looked_up true some old d = refl
looked_up false some old d = refl

-- what was put in twice is there once
pub twice : {A : Type 0} (b : Bool) (x : A) (old : A) (mid : A) → cond b x (cond b mid old) ≡ cond b x old
twice true x old mid = refl
twice false x old mid = refl

-- a list with one more number
in_pushed : (e : ℕ) (xs : List ℕ) (r : ℕ) → is_in e (xs ++ r ∷ []) ≡ (eqb e r || is_in e xs)
in_pushed e [] r = refl
in_pushed e (x ∷ xs) r = ap (λ b. nat_eq e x || b) (in_pushed e xs r) ∙ turned (nat_eq e x) (eqb e r) (is_in e xs)

-- at one vertex
pub since_transaction : (b : Bool) (e r : ℕ) (old new : List ℕ) → new ≡ cond b [] old → is_in e new ≡ cond b (not true && (eqb e r || is_in e old)) (is_in e old)
since_transaction true e r old new is = ap (is_in e) is
since_transaction false e r old new is = ap (is_in e) is

-- after a program
pub since_program : (b : Bool) (e r : ℕ) (here old new : List ℕ) → (IsTrue b → here ≡ old) → new ≡ cond b (here ++ r ∷ []) old → is_in e new ≡ cond b (not false && (eqb e r || is_in e old)) (is_in e old)
since_program true e r here old new same is = ap (is_in e) is ∙ in_pushed e here r ∙ ap (λ (xs : List ℕ). eqb e r || is_in e xs) (same refl)
since_program false e r here old new same is = ap (is_in e) is

-- One name more of a list

-- a name is among them
pub among_more : (names : List Name) (name v : Name) → is_among (names ++ name ∷ []) v ≡ (is_among names v || same_name name v)
among_more [] name v = or_false (same_name name v)
  where
    or_false : (b : Bool) → (b || false) ≡ (false || b)
    or_false true = refl
    or_false false = refl
among_more (x ∷ names) name v = ap (λ b. same_name x v || b) (among_more names name v) ∙ joined (same_name x v) (is_among names v) (same_name name v)
  where
    joined : (a b c : Bool) → (a || (b || c)) ≡ ((a || b) || c)
    joined true b c = refl
    joined false b c = refl

-- the last transaction after one name more
pub last_more : (names : List Name) (name v : Name) (changes : Bool) (r : ℕ) (initial old new : Option ℕ) → old ≡ cond (changes && is_among names v) (Some r) initial → new ≡ cond (changes && same_name name v) (Some r) old → new ≡ cond (changes && is_among (names ++ name ∷ []) v) (Some r) initial
last_more names name v changes r initial old new was is =
    is ∙ ap (cond (changes && same_name name v) (Some r)) was ∙ of_tests changes (is_among names v) (same_name name v) ∙ ap (λ b. cond (changes && b) (Some r) initial) (sym (among_more names name v))
  where
    of_tests : (c a b : Bool) → cond (c && b) (Some r) (cond (c && a) (Some r) initial) ≡ cond (c && (a || b)) (Some r) initial
    of_tests false a b = refl
    of_tests true true true = refl
    of_tests true true false = refl
    of_tests true false true = refl
    of_tests true false false = refl

-- the programs since then after one name more
pub since_more : (names : List Name) (name v : Name) (changes same : Bool) (initial old new : Bool) → old ≡ cond (is_among names v) (not changes && (same || initial)) initial → new ≡ cond (same_name name v) (not changes && (same || old)) old → new ≡ cond (is_among (names ++ name ∷ []) v) (not changes && (same || initial)) initial
since_more names name v changes same initial old new was is =
    is ∙ ap (λ b. cond (same_name name v) (not changes && (same || b)) b) was ∙ of_tests changes same (is_among names v) (same_name name v) initial ∙ ap (λ b. cond b (not changes && (same || initial)) initial) (sym (among_more names name v))
  where
    of_tests : (c s a b i : Bool) → cond b (not c && (s || cond a (not c && (s || i)) i)) (cond a (not c && (s || i)) i) ≡ cond (a || b) (not c && (s || i)) i
    of_tests true s true true i = refl
    of_tests true s true false i = refl
    of_tests true s false true i = refl
    of_tests true s false false i = refl
    of_tests false true true true i = refl
    of_tests false true true false i = refl
    of_tests false true false true i = refl
    of_tests false true false false i = refl
    of_tests false false true true i = refl
    of_tests false false true false i = refl
    of_tests false false false true i = refl
    of_tests false false false false i = refl

-- the name at a place of a list is among its names
pub among_here : (names : List Name) (i : ℕ) (name : Name) → i < length names → name ≡ get_or names i name → IsTrue (is_among names name)
among_here [] i name within is = absurd (omega (arith, within))
among_here (x ∷ names) zero name within is = or_left _ _ (subst (λ w. IsTrue (same_name w name)) is (same_name-refl name))
among_here (x ∷ names) (suc i) name within is = or_right (same_name x name) _ (among_here names i name (omega (arith, within)) is)
