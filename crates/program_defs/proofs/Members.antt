-- Members of the lists that levels are made of.
-- Used by `searches_find_the_present`, Answering, AnswersAgree, Ending, GoingOn, Leads, Levels, NextVisit, Once,
-- OneAnswer, OneList, OnePrice, Onward, Pathing, Rereading, Searched, Seeing, Sets, Sorting, VisitsAgree and Walked.
use Rattle.std.proofs.Common.{◌≡◌, ◌&&◌, Bool, true, false, cond, List, [], ◌∷◌, ◌++◌, IsTrue, refl, sym, ap, subst, Some, None, ◌⊎◌, inl, inr}
use Rattle.std.specs.Prelude.{is_some}
use Rattle.std.specs.BTreeSet.{insert_key}
use Rattle.std.specs.Cmp.Lexicographic.{slice_cmp}
use Rattle.std.specs.FinMap.{slice_cmp-IsAntisymmetric}
use Rattle.std.specs.List.{filter}
use Rattle.std.specs.declared.cmp.Ordering.{Ordering}
use Rattle.std.specs.declared.cmp.Ordering.TheVariants.{Less, Equal, Greater}
use Rattle.std.specs.Ordering.{is_eq, match_ordering}
use Rattle.std.proofs.lemmas.Bool.{or_cases, or_left, or_right, and_parts, and_from}
use Rattle.weave_data.specs.Names.{name_cmp, same_name, one_name}
use Rattle.weave_data.specs.declared.name.Name.{Name}
use Rattle.graph_ops.specs.Mentions.{is_among}
use Rattle.graph_ops.specs.Operations.{State}
use Rattle.graph_ops.specs.PlainGraph.{PlainGraph}
use Rattle.graph_ops.proofs.Vertices.{same_name-refl}
use Rattle.program_defs.specs.declared.passing.Passing.{Passing}
use Rattle.program_defs.specs.Walks.{targets}
use Rattle.program_defs.specs.Visits.{as_set, targets_of_all}

-- names that the order doesn't tell apart are one
pub name-equal : (x y : Name) → name_cmp x y ≡ Equal → x ≡ y
name-equal x y e = one_name x y (ap is_eq e)

-- lists of names that compare as equal are equal
pub lists-equal : (xs ys : List Name) → slice_cmp name_cmp xs ys ≡ Equal → xs ≡ ys
lists-equal xs ys e = slice_cmp-IsAntisymmetric name-equal xs ys e

-- what is among the first of two lists is among both joined
pub among-left : (xs ys : List Name) (w : Name) → IsTrue (is_among xs w) → IsTrue (is_among (xs ++ ys) w)
among-left [] ys w h = cc
among-left (x ∷ xs) ys w h =
    elim (or_cases (same_name x w) _ h) [ inl same ↦ or_left _ _ same | inr more ↦ or_right _ _ (among-left xs ys w more) ]

-- and so is what is among the second
pub among-right : (xs ys : List Name) (w : Name) → IsTrue (is_among ys w) → IsTrue (is_among (xs ++ ys) w)
among-right [] ys w h = h
among-right (x ∷ xs) ys w h = or_right _ _ (among-right xs ys w h)

-- what is among two joined lists is among the first or among the second
pub among-cases : (xs ys : List Name) (w : Name) → IsTrue (is_among (xs ++ ys) w) → IsTrue (is_among xs w) ⊎ IsTrue (is_among ys w)
among-cases [] ys w h = inr h
among-cases (x ∷ xs) ys w h =
    elim (or_cases (same_name x w) _ h) [
      | inl same ↦ inl (or_left _ _ same)
      | inr more ↦ elim (among-cases xs ys w more) [ inl l ↦ inl (or_right _ _ l) | inr r ↦ inr r ]
    ]

-- a passing target of one of some vertices is among the targets of all of them
pub all-targets-has : (graph : PlainGraph) (pass : Passing) (vs : List Name) (v w : Name)
    → IsTrue (is_among vs v) → IsTrue (is_among (targets pass (graph v)) w) → IsTrue (is_among (targets_of_all graph pass vs) w)
all-targets-has graph pass [] v w h g = cc
all-targets-has graph pass (x ∷ xs) v w h g =
    elim (or_cases (same_name x v) _ h) [
      | inl same ↦ among-left (targets pass (graph x)) _ w (subst (λ y. IsTrue (is_among (targets pass (graph y)) w)) (sym (one_name x v same)) g)
      | inr more ↦ among-right (targets pass (graph x)) _ w (all-targets-has graph pass xs v w more g)
    ]

-- what is among some names and passes a test is among those that the filter leaves
pub filter-has : (p : Name → Bool) (xs : List Name) (w : Name) → IsTrue (is_among xs w) → IsTrue (p w) → IsTrue (is_among (filter p xs) w)
filter-has p [] w h g = cc
filter-has p (x ∷ xs) w h g =
    elim (or_cases (same_name x w) _ h) [
      | inl same ↦ subst (λ b. IsTrue (is_among (cond b (x ∷ filter p xs) (filter p xs)) w)) (sym (subst (λ y. IsTrue (p y)) (sym (one_name x w same)) g)) (or_left _ _ same)
      | inr more ↦ kept (p x) (filter-has p xs w more g)
    ]
  where
    kept : (b : Bool) → IsTrue (is_among (filter p xs) w) → IsTrue (is_among (cond b (x ∷ filter p xs) (filter p xs)) w)
    kept true k = or_right _ _ k
    kept false k = k

-- a name that is inserted is among the list then, and so is each that was among it
pub insert-has : (xs : List Name) (v w : Name) → IsTrue (same_name v w) ⊎ IsTrue (is_among xs w) → IsTrue (is_among (insert_key name_cmp xs v) w)
insert-has [] v w (inl same) = or_left _ _ same
insert-has [] v w (inr more) = cc
insert-has (x ∷ xs) v w h = place (name_cmp v x) refl h (insert-has xs v w)
  where
    place : (o : Ordering) → name_cmp v x ≡ o → IsTrue (same_name v w) ⊎ IsTrue (is_among (x ∷ xs) w)
        → (IsTrue (same_name v w) ⊎ IsTrue (is_among xs w) → IsTrue (is_among (insert_key name_cmp xs v) w))
        → IsTrue (is_among (match_ordering o (v ∷ x ∷ xs) (x ∷ xs) (x ∷ insert_key name_cmp xs v)) w)
    place Less is (inl same) rest = or_left _ _ same
    place Less is (inr more) rest = or_right _ _ more
    place Equal is (inl same) rest = or_left _ _ (subst (λ y. IsTrue (same_name y w)) (one_name v x (ap is_eq is)) same)
    place Equal is (inr more) rest = more
    place Greater is (inl same) rest = or_right _ _ (rest (inl same))
    place Greater is (inr more) rest =
        elim (or_cases (same_name x w) _ more) [ inl here ↦ or_left _ _ here | inr there ↦ or_right _ _ (rest (inr there)) ]

-- what is among some names is among their set
pub as_set-has : (vs : List Name) (w : Name) → IsTrue (is_among vs w) → IsTrue (is_among (as_set vs) w)
as_set-has [] w h = h
as_set-has (v ∷ vs) w h =
    elim (or_cases (same_name v w) _ h) [
      | inl same ↦ insert-has (as_set vs) v w (inl same)
      | inr more ↦ insert-has (as_set vs) v w (inr (as_set-has vs w more))
    ]

-- and back

-- what a filter leaves was there, and passes
pub filter-only : (p : Name → Bool) (xs : List Name) (w : Name) → IsTrue (is_among (filter p xs) w) → IsTrue (is_among xs w && p w)
filter-only p [] w h = cc
filter-only p (x ∷ xs) w h = left (p x) refl (λ g. later (filter-only p xs w g)) h
  where
    later : IsTrue (is_among xs w && p w) → IsTrue (is_among (x ∷ xs) w && p w)
    later h = let parts = and_parts (is_among xs w) (p w) h in and_from _ _ (or_right (same_name x w) _ parts.0) parts.1

    left : (b : Bool) → p x ≡ b → (IsTrue (is_among (filter p xs) w) → IsTrue (is_among (x ∷ xs) w && p w))
        → IsTrue (is_among (cond b (x ∷ filter p xs) (filter p xs)) w) → IsTrue (is_among (x ∷ xs) w && p w)
    left false is rest g = rest g
    left true is rest g =
        elim (or_cases (same_name x w) _ g) [
          | inl same ↦ and_from _ _ (or_left _ _ same) (subst (λ y. IsTrue (p y)) (one_name x w same) is)
          | inr more ↦ rest more
        ]

-- what is among a list after a name was inserted is this name, or was among the list
pub insert-only : (xs : List Name) (v w : Name) → IsTrue (is_among (insert_key name_cmp xs v) w) → IsTrue (same_name v w) ⊎ IsTrue (is_among xs w)
insert-only [] v w h = elim (or_cases (same_name v w) _ h) [ inl same ↦ inl same | inr more ↦ cc ]
insert-only (x ∷ xs) v w h = place (name_cmp v x) (insert-only xs v w) h
  where
    place : (o : Ordering) → (IsTrue (is_among (insert_key name_cmp xs v) w) → IsTrue (same_name v w) ⊎ IsTrue (is_among xs w))
        → IsTrue (is_among (match_ordering o (v ∷ x ∷ xs) (x ∷ xs) (x ∷ insert_key name_cmp xs v)) w) → IsTrue (same_name v w) ⊎ IsTrue (is_among (x ∷ xs) w)
    place Less rest g = or_cases (same_name v w) _ g
    place Equal rest g = inr g
    place Greater rest g =
        elim (or_cases (same_name x w) _ g) [
          | inl here ↦ inr (or_left _ _ here)
          | inr there ↦ elim (rest there) [ inl same ↦ inl same | inr more ↦ inr (or_right _ _ more) ]
        ]

-- what is among the set of some names is among these names
pub as_set-only : (vs : List Name) (w : Name) → IsTrue (is_among (as_set vs) w) → IsTrue (is_among vs w)
as_set-only [] w h = h
as_set-only (v ∷ vs) w h =
    elim (insert-only (as_set vs) v w h) [ inl same ↦ or_left _ _ same | inr more ↦ or_right _ _ (as_set-only vs w more) ]

-- what has a target is there
pub target-of : (pass : Passing) (state : State) (w : Name) → IsTrue (is_among (targets pass state) w) → IsTrue (is_some state)
target-of pass None w h = cc
target-of pass (Some now) w h = refl

-- a target of some is one of one of them
pub record IsSource (graph : PlainGraph) (pass : Passing) (vs : List Name) (w : Name) (v : Name) : Type 0 where
  pub among : IsTrue (is_among vs v)
  pub edge : IsTrue (is_among (targets pass (graph v)) w)

-- what is among the targets of some vertices is a passing target of one of them
pub all-targets-only : (graph : PlainGraph) (pass : Passing) (vs : List Name) (w : Name) → IsTrue (is_among (targets_of_all graph pass vs) w) → (v : Name) × IsSource graph pass vs w v
all-targets-only graph pass [] w h = cc
all-targets-only graph pass (x ∷ xs) w h =
    elim (among-cases (targets pass (graph x)) (targets_of_all graph pass xs) w h) [
      | inl here ↦ (x, record { among = or_left _ _ (same_name-refl x); edge = here })
      | inr later ↦
          let source = all-targets-only graph pass xs w later in
          (source.0, record { among = or_right _ _ source.1.among; edge = source.1.edge })
    ]
