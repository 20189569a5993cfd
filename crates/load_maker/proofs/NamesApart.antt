-- Names of one letter: drawn ones are names, those of different numbers differ, and those of vertices are 40.
-- Used by ValidParts and ValidScripts.
use Rattle.std.proofs.Common.{inl, inr, ◌≡◌, ℕ, zero, suc, ◌≤◌, ◌<◌, ◌%◌, Bool, true, false, cond, ◌&&◌, List, [], ◌∷◌, ◌++◌, length, IsTrue, refl, sym, ap, ◌∙◌, subst, arith}
use Rattle.std.specs.Prelude.{nat_le, codes}
use Rattle.std.specs.Fmt.{decimal}
use Rattle.std.specs.List.{AllByRecursion, IsDistinct}
use Rattle.std.specs.Set.{is_member}
use Rattle.std.specs.Cmp.{eq_by_cmp_equiv}
use Rattle.std.specs.Cmp.Lexicographic.{nat_list_cmp_total}
use Rattle.std.proofs.Math.Nat.{mod-lt}
use Rattle.std.proofs.lemmas.Bool.{or_left, or_right, or_parts, or_cases, false_from_ne_true, cases_eq}
use Rattle.std.proofs.lemmas.Fmt.{decimal_injective}
use Rattle.std.proofs.lemmas.Map.Made.{length-le_from_is_member}
use Rattle.weave_data.specs.Names.{is_name, same_name, one_name}
use Rattle.weave_data.specs.declared.name.Name.{Name}
use Rattle.graph_ops.proofs.Vertices.{same_name-refl}
use Rattle.graph_ops.specs.Mentions.{is_among, with_name}
use Rattle.weave_script.specs.Limits.{with_names}
use Rattle.load_maker.specs.Generated.{numbered_name}
use Rattle.load_maker.proofs.NumberedNames.{numbered_is_name}
use Rattle.weave_data.proofs.Lists.{all-push}

-- a small letter with a number drawn below m is a name, if m is from 1 to 10,000
pub drawn_is_name : (letter m word : ℕ) → IsTrue (nat_le 97 letter && nat_le letter 122) → 0 < m → m ≤ 10000 → is_name (letter ∷ decimal (word % m)) ≡ true
drawn_is_name letter m word small_letter some few =
    let small = mod-lt word some in
    numbered_is_name letter (word % m) small_letter (omega (arith, small, few))

-- ---- names of different numbers differ

tail_of : List ℕ → List ℕ
tail_of [] = []
tail_of (b ∷ bs) = bs

-- one letter with two different numbers, of at most 10,000, makes two different names
pub numbers_apart : (letter m n : ℕ) → m < n → n ≤ 10000 → same_name (letter ∷ decimal m) (letter ∷ decimal n) ≡ false
unfolding tail_of
numbers_apart letter m n less few =
    false_from_ne_true _ (λ same.
    let names : letter ∷ decimal m ≡ letter ∷ decimal n = one_name (letter ∷ decimal m) (letter ∷ decimal n) same in
    let e : m ≡ n = decimal_injective m n (omega (arith, less, few)) (omega (arith, few)) (ap tail_of {x = letter ∷ decimal m} {y = letter ∷ decimal n} names) in
    omega (arith, e, less))

-- distinct names stay distinct with one more that differs from each of them
pub distinct-push : (names : List Name) (name : Name) → IsDistinct same_name names → AllByRecursion (λ other. same_name other name ≡ false) names → IsDistinct same_name (names ++ name ∷ [])
unfolding IsDistinct
distinct-push [] name h free = (tt, tt)
distinct-push (other ∷ names) name h free = (all-push (λ next. same_name other next ≡ false) names name h.0 free.0, distinct-push names name h.1 free.1)

-- ---- names of vertices

-- a name of a vertex: one of 40
pub IsVertexName : Name → Type 0
IsVertexName name = (k : ℕ) × (k < 40) × (name ≡ numbered_name (codes "v") k)

-- the letter v with a number drawn below 40 is the name of a vertex
pub drawn_is_vertex : (word : ℕ) → IsVertexName (numbered_name (codes "v") (word % 40))
unfolding IsVertexName
drawn_is_vertex word = (word % 40, mod-lt word (omega arith), refl)

names_below : ℕ → List Name
names_below zero = []
names_below (suc n) = numbered_name (codes "v") n ∷ names_below n

below_member : (n k : ℕ) → k < n → is_member same_name (names_below n) (numbered_name (codes "v") k) ≡ true
unfolding names_below
below_member zero k h = absurd (omega (arith, h))
below_member (suc n) k h = elim (cases_eq k n) [
  | inl e ↦ or_left _ _ (ap (λ n. same_name (numbered_name (codes "v") k) (numbered_name (codes "v") n)) (sym e) ∙ same_name-refl (numbered_name (codes "v") k))
  | inr e ↦ or_right _ _ (below_member n k (omega (arith, h, e)))
]

vertex_member : (name : Name) → IsVertexName name → is_member same_name (names_below 40) name ≡ true
unfolding IsVertexName
vertex_member name h = subst (λ name. is_member same_name (names_below 40) name ≡ true) (sym h.2) (below_member 40 h.0 h.1)

members : (names : List Name) → AllByRecursion IsVertexName names → (q : Name) → is_member same_name names q ≡ true → is_member same_name (names_below 40) q ≡ true
members [] h q e = absurd cc
members (name ∷ names) h q e = elim (or_cases _ _ e) [
  | inl same ↦ subst (λ name. is_member same_name (names_below 40) name ≡ true) (sym (one_name q name same)) (vertex_member name h.0)
  | inr rest ↦ members names h.1 q rest
]

-- names of vertices, each once
record AreVertices (names : List Name) : Type 0 where
  all : AllByRecursion IsVertexName names
  apart : IsDistinct same_name names

not_among : (names : List Name) (name : Name) → is_among names name ≡ false → AllByRecursion (λ other. same_name other name ≡ false) names
not_among [] name h = tt
not_among (other ∷ names) name h = let parts = or_parts _ _ h in (parts.0, not_among names name parts.1)

with_one : (b : Bool) (names : List Name) (name : Name) → is_among names name ≡ b → AreVertices names → IsVertexName name → AreVertices (cond b names (names ++ name ∷ []))
with_one true names name e h k = h
with_one false names name e h k = record { all = all-push IsVertexName names name h.all k; apart = distinct-push names name h.apart (not_among names name e) }

with_more : (names more : List Name) → AreVertices names → AllByRecursion IsVertexName more → AreVertices (with_names names more)
with_more names [] h k = h
with_more names (name ∷ more) h k = with_more (with_name name names) more (with_one (is_among names name) names name refl h k.0) k.1

forty : length (names_below 40) ≡ 40
unfolding names_below
forty = refl

-- names of vertices, each counted once, are at most 40
pub few_vertices : (names : List Name) → AllByRecursion IsVertexName names → length (with_names [] names) ≤ 40
unfolding IsDistinct
few_vertices names h =
    let all = with_more [] names (record { all = tt; apart = tt }) h in
    let few = length-le_from_is_member (eq_by_cmp_equiv nat_list_cmp_total) (with_names [] names) (names_below 40) all.apart (members (with_names [] names) all.all) in
    omega (arith, few, forty)
