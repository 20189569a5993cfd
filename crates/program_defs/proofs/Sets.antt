-- Lists of names in rising order: two of them with the same members are equal.
-- Used by `searches_find_the_present`, Answering, Cutting, Once, OneAnswer, Searched and Sorting.
use Rattle.std.proofs.Common.{◌≡◌, ◌+◌, true, false, List, [], ◌∷◌, IsTrue, refl, sym, ap, subst, ◌∙◌, ◌⊎◌, inl, inr, arith, get_or}
use Rattle.std.specs.Prelude.{⊤}
use Rattle.std.specs.BTreeSet.{insert_key}
use Rattle.std.specs.List.{AllByRecursion, IsDistinct}
use Rattle.std.specs.List.Sorted.{IsSorted, IsStrictlySortedBy}
use Rattle.std.specs.declared.cmp.Ordering.{Ordering}
use Rattle.std.specs.declared.cmp.Ordering.TheVariants.{Less, Equal, Greater}
use Rattle.std.specs.Ordering.{is_lt, is_eq, match_ordering, ordering_reverse}
use Rattle.std.proofs.lemmas.Cmp.{nat_list_cmp_total, tied_itself}
use Rattle.std.proofs.lemmas.Bool.{and_parts, or_cases, or_left, or_right}
use Rattle.std.proofs.lemmas.Map.Keys.{sorted_head, sorted_tail, sorted_from_all_adjacent, apart_from_distinct}
use Rattle.std.specs.Cmp.{both_ways as same_test}
use Rattle.weave_data.specs.Names.{name_cmp, same_name, one_name}
use Rattle.weave_data.specs.declared.name.Name.{Name}
use Rattle.graph_ops.specs.Mentions.{is_among}
use Rattle.graph_ops.proofs.Vertices.{same_name-refl}
use Rattle.program_defs.specs.Rising.{is_rising}
use Rattle.program_defs.specs.Visits.{as_set}
use Rattle.program_defs.proofs.Members.{insert-only}

-- the name comes before each of these
abbrev pub IsBelowAll : Name → List Name → Type 0
IsBelowAll x xs = (y : Name) → IsTrue (is_among xs y) → name_cmp x y ≡ Less

-- each name comes before those after it
abbrev pub IsSet : List Name → Type 0
IsSet [] = ⊤
IsSet (x ∷ xs) = IsBelowAll x xs × IsSet xs

-- two lists have the same members
abbrev pub HaveSame : List Name → List Name → Type 0
HaveSame xs ys = (v : Name) → is_among xs v ≡ is_among ys v

-- no name comes before itself
pub not-below-itself : (x : Name) → ¬ (name_cmp x x ≡ Less)
not-below-itself x less = let same : name_cmp x x ≡ Equal = tied_itself nat_list_cmp_total x in let e : Less ≡ Equal = sym less ∙ same in cc

not-both : (x y : Name) → name_cmp x y ≡ Less → ¬ (name_cmp y x ≡ Less)
not-both x y less more = let turned : name_cmp x y ≡ ordering_reverse (name_cmp y x) = nat_list_cmp_total.antisymm x y in let e : Less ≡ Greater = sym less ∙ turned ∙ ap ordering_reverse more in cc

-- the first name of a list is among the list
pub head-in : (x : Name) (xs : List Name) → IsTrue (is_among (x ∷ xs) x)
head-in x xs = or_left _ _ (same_name-refl x)

-- what is among the rest of a list is among the list
pub tail-in : (x : Name) (xs : List Name) (v : Name) → IsTrue (is_among xs v) → IsTrue (is_among (x ∷ xs) v)
tail-in x xs v h = or_right (same_name x v) _ h

-- sets with the same members are equal
pub same-sets : (xs ys : List Name) → IsSet xs → IsSet ys → HaveSame xs ys → xs ≡ ys
same-sets [] [] s t same = refl
same-sets [] (y ∷ ys) s t same = let e : false ≡ true = same y ∙ head-in y ys in cc
same-sets (x ∷ xs) [] s t same = let e : false ≡ true = sym (same x) ∙ head-in x xs in cc
same-sets (x ∷ xs) (y ∷ ys) s t same =
    let first = heads (or_cases (same_name y x) _ (subst (λ b. IsTrue b) (same x) (head-in x xs))) (or_cases (same_name x y) _ (subst (λ b. IsTrue b) (sym (same y)) (head-in y ys))) in
    let rest : xs ≡ ys = same-sets xs ys s.1 t.1 (λ v. same_test _ _ (λ k. over x y xs ys (sym first) s.0 (λ w g. subst (λ b. IsTrue b) (same w) g) v k) (λ k. over y x ys xs first t.0 (λ w g. subst (λ b. IsTrue b) (sym (same w)) g) v k)) in
    ap (λ z. z ∷ xs) first ∙ ap (λ zs. y ∷ zs) rest
  where
    heads : IsTrue (same_name y x) ⊎ IsTrue (is_among ys x) → IsTrue (same_name x y) ⊎ IsTrue (is_among xs y) → x ≡ y
    heads (inl a) b = sym (one_name y x a)
    heads (inr a) (inl b) = one_name x y b
    heads (inr a) (inr b) = absurd (not-both x y (s.0 y b) (t.0 x a))

    over : (x y : Name) (xs ys : List Name) → y ≡ x → IsBelowAll x xs → ((w : Name) → IsTrue (is_among (x ∷ xs) w) → IsTrue (is_among (y ∷ ys) w)) → (v : Name) → IsTrue (is_among xs v) → IsTrue (is_among ys v)
    over x y xs ys e below all v k =
        elim (or_cases (same_name y v) _ (all v (tail-in x xs v k))) [
          | inr more ↦ more
          | inl here ↦ absurd (not-below-itself x (subst (λ w. name_cmp x w ≡ Less) (sym (one_name y v here) ∙ e) (below v k)))
        ]

-- one more name
insert-below : (x : Name) (xs : List Name) (v : Name) → name_cmp x v ≡ Less → IsBelowAll x xs → IsBelowAll x (insert_key name_cmp xs v)
insert-below x xs v less below y k =
    elim (insert-only xs v y k) [ inl here ↦ subst (λ w. name_cmp x w ≡ Less) (one_name v y here) less | inr more ↦ below y more ]

-- a set with a name inserted is a set
pub insert-set : (xs : List Name) (v : Name) → IsSet xs → IsSet (insert_key name_cmp xs v)
insert-set [] v s = (λ y k. cc, tt)
insert-set (x ∷ xs) v s = at (name_cmp v x) refl (insert-set xs v s.1)
  where
    at : (o : Ordering) → name_cmp v x ≡ o → IsSet (insert_key name_cmp xs v) → IsSet (match_ordering o (v ∷ x ∷ xs) (x ∷ xs) (x ∷ insert_key name_cmp xs v))
    at Less is rest = (λ y k. elim (or_cases (same_name x y) _ k) [ inl here ↦ subst (λ w. name_cmp v w ≡ Less) (one_name x y here) is | inr more ↦ nat_list_cmp_total.trans v x y is (s.0 y more) ], s)
    at Equal is rest = s
    at Greater is rest = (insert-below x xs v (nat_list_cmp_total.antisymm x v ∙ ap ordering_reverse is) s.0, rest)

-- the set of some names is a list in which each comes before those after it
pub as_set-set : (vs : List Name) → IsSet (as_set vs)
as_set-set [] = tt
as_set-set (v ∷ vs) = insert-set (as_set vs) v (as_set-set vs)

-- what passes the test of being less is less
less : (o : Ordering) → IsTrue (is_lt o) → o ≡ Less
less Less h = refl
less Equal h = cc
less Greater h = cc

-- a list of names that rise is a set
pub rising-set : (xs : List Name) → IsTrue (is_rising xs) → IsSet xs
rising-set [] h = tt
rising-set (x ∷ []) h = (λ y k. cc, tt)
rising-set (x ∷ y ∷ rest) h =
    let parts = and_parts (is_lt (name_cmp x y)) _ h in
    let first : name_cmp x y ≡ Less = less (name_cmp x y) parts.0 in
    let more = rising-set (y ∷ rest) parts.1 in
    (λ z k. elim (or_cases (same_name y z) _ k) [ inl here ↦ subst (λ w. name_cmp x w ≡ Less) (one_name y z here) first | inr later ↦ nat_list_cmp_total.trans x y z first (more.0 z later) ], more)

-- the names of a set rise
pub set-rising : (xs : List Name) → IsSet xs → IsTrue (is_rising xs)
set-rising [] s = refl
set-rising (x ∷ []) s = refl
set-rising (x ∷ y ∷ rest) s = rw (s.0 y (head-in y rest)) (set-rising (y ∷ rest) s.1)

-- a name that is less than each of a list, one after another, is below all that are in it
all-below : (x : Name) (xs : List Name) → AllByRecursion (λ y. name_cmp x y ≡ Less) xs → IsBelowAll x xs
all-below x [] all y k = cc
all-below x (z ∷ zs) all y k = elim (or_cases (same_name z y) _ k) [ inl here ↦ subst (λ w. name_cmp x w ≡ Less) (one_name z y here) all.0 | inr more ↦ all-below x zs all.1 y more ]

strict-set : (xs : List Name) → IsStrictlySortedBy name_cmp xs → IsSet xs
strict-set [] s = tt
strict-set (x ∷ xs) s = (all-below x xs (sorted_head name_cmp x xs s), strict-set xs (sorted_tail name_cmp x xs s))

-- a sorted list in which no name comes twice is a set
pub sorted-set : (xs : List Name) → IsSorted name_cmp xs → IsDistinct same_name xs → IsSet xs
sorted-set xs sorted distinct =
    strict-set xs (sorted_from_all_adjacent nat_list_cmp_total xs [] (λ k below. at (get_or xs k []) (get_or xs (k + 1) []) _ refl (apart_from_distinct same_name xs k (k + 1) [] distinct (omega arith) below) (sorted k [] (omega arith) below)))
  where
    at : (x y : Name) (o : Ordering) → name_cmp x y ≡ o → same_name x y ≡ false → is_lt (name_cmp y x) ≡ false → name_cmp x y ≡ Less
    at x y Less is differ not_less = is
    at x y Equal is differ not_less = let e : true ≡ false = sym (ap is_eq is) ∙ differ in cc
    at x y Greater is differ not_less =
        let turned : name_cmp y x ≡ Less = nat_list_cmp_total.antisymm y x ∙ ap ordering_reverse is in
        let e : true ≡ false = sym (ap is_lt turned) ∙ not_less in cc
