-- Lists of bounds and of passing edges, as tests go through them.
-- Used by CertificateTests, NumberedRows, OnePrice and Placing.
use Rattle.std.proofs.Common.{◌≡◌, ℕ, Bool, true, false, refl, sym, ap, subst, ◌∙◌, List, [], ◌∷◌, Some, IsTrue, ◌⊎◌, inl, inr, if◌then◌else◌, find, cond}
use Rattle.std.specs.List.{list_all, list_any}
use Rattle.std.specs.Ordering.{is_lt, is_le, is_eq}
use Rattle.std.specs.declared.cmp.Ordering.{Ordering}
use Rattle.std.specs.declared.cmp.Ordering.TheVariants.{Less, Equal, Greater}
use Rattle.std.proofs.lemmas.Bool.{and_parts, and_from, both_ways, or_cases, or_left, or_right}
use Rattle.std.proofs.lemmas.Cmp.{nat_list_cmp_total, tied_itself}
use Rattle.weave_data.specs.Names.{name_cmp, same_name, one_name}
use Rattle.weave_data.specs.declared.name.Name.{Name}
use Rattle.graph_ops.proofs.Vertices.{same_name-refl}
use Rattle.program_defs.specs.declared.program.Bound.{Bound}
use Rattle.program_defs.specs.Labels.{listed_names}
use Rattle.program_defs.specs.PricedAnswer.{bound_at}
use Rattle.program_defs.specs.Prices.{HasEdge}
use Rattle.program_defs.specs.Rising.{is_rising}

-- a bound is in the list
abbrev pub HasBound : List Bound → Name → ℕ → Type 0
HasBound [] v d = ⊥
HasBound (bound ∷ rest) v d = (bound.vertex ≡ v) × (bound.price ≡ d) ⊎ HasBound rest v d

-- what is found is in the list
pub has-of-at : (bounds : List Bound) (v : Name) (d : ℕ) → bound_at bounds v ≡ Some d → HasBound bounds v d
has-of-at [] v d e = cc
has-of-at (bound ∷ rest) v d e = at (same_name bound.vertex v) refl e (has-of-at rest v d)
  where
    at : (b : Bool) → same_name bound.vertex v ≡ b → (if b then Some bound.price else bound_at rest v) ≡ Some d → (bound_at rest v ≡ Some d → HasBound rest v d) → HasBound (bound ∷ rest) v d
    at true same f more = inl (one_name bound.vertex v same, cc)
    at false other f more = inr (more f)

-- an order that is less is `Less`
pub is-less : (o : Ordering) → is_lt o ≡ true → o ≡ Less
is-less Less e = refl
is-less Equal e = cc
is-less Greater e = cc

-- the first of rising listed_names is before the others
pub rising-first : (x : Name) (rest : List Bound) → is_rising (x ∷ listed_names rest) ≡ true → (v : Name) (d : ℕ) → HasBound rest v d → name_cmp x v ≡ Less
rising-first x [] rising v d h = absurd h
rising-first x (bound ∷ rest) rising v d (inl here) =
    subst (λ w. name_cmp x w ≡ Less) here.0 (is-less _ ((and_parts _ _ rising).0))
rising-first x (bound ∷ rest) rising v d (inr there) =
    nat_list_cmp_total.trans x bound.vertex v (is-less _ ((and_parts _ _ rising).0)) (rising-first bound.vertex rest ((and_parts _ _ rising).1) v d there)

-- the rest of rising bounds rise
pub rising-rest : (bound : Bound) (rest : List Bound) → is_rising (listed_names (bound ∷ rest)) ≡ true → is_rising (listed_names rest) ≡ true
rising-rest bound [] rising = refl
rising-rest bound (next ∷ rest) rising = (and_parts _ _ rising).1

-- a lesser name is another one
pub less-not-same : (x v : Name) → name_cmp x v ≡ Less → same_name x v ≡ false
less-not-same x v e = ap is_eq e

-- what is in a list of rising listed_names is found
pub at-of-has : (bounds : List Bound) → is_rising (listed_names bounds) ≡ true → (v : Name) (d : ℕ) → HasBound bounds v d → bound_at bounds v ≡ Some d
at-of-has [] rising v d h = absurd h
at-of-has (bound ∷ rest) rising v d (inl here) =
    let same : same_name bound.vertex v ≡ true = subst (λ w. same_name bound.vertex w ≡ true) here.0 (same_name-refl bound.vertex) in
    rw same (ap Some here.1)
at-of-has (bound ∷ rest) rising v d (inr there) =
    rw (less-not-same bound.vertex v (rising-first bound.vertex rest rising v d there)) (at-of-has rest (rising-rest bound rest rising) v d there)

-- a test of all bounds
pub each-bound : (test : Bound → Bool) (bounds : List Bound) → list_all test bounds ≡ true → (v : Name) (d : ℕ) → HasBound bounds v d → test (record { vertex = v; price = d }) ≡ true
each-bound test [] e v d h = absurd h
each-bound test (bound ∷ rest) e v d (inl here) =
    subst (λ (b : Bound). test b ≡ true) (λ i. record { vertex = here.0 i; price = here.1 i }) ((and_parts _ _ e).0)
each-bound test (bound ∷ rest) e v d (inr there) = each-bound test rest ((and_parts _ _ e).1) v d there

-- a test that all bounds pass holds of each
pub all-bounds : (test : Bound → Bool) (bounds : List Bound) → ((v : Name) (d : ℕ) → HasBound bounds v d → test (record { vertex = v; price = d }) ≡ true) → list_all test bounds ≡ true
all-bounds test [] h = refl
all-bounds test (bound ∷ rest) h = and_from _ _ (h bound.vertex bound.price (inl (refl, refl))) (all-bounds test rest (λ v d there. h v d (inr there)))

-- a test of all passing edges
pub each-edge : (test : Name × ℕ → Bool) (edges : List (Name × ℕ)) → list_all test edges ≡ true → (v : Name) (p : ℕ) → HasEdge edges v p → test (v, p) ≡ true
each-edge test [] e v p h = absurd h
each-edge test (hop ∷ rest) e v p (inl here) = subst (λ (x : Name × ℕ). test x ≡ true) (λ i. (here.0 i, here.1 i)) ((and_parts _ _ e).0)
each-edge test (hop ∷ rest) e v p (inr there) = each-edge test rest ((and_parts _ _ e).1) v p there

-- a test that all edges pass holds of each
pub all-edges : (test : Name × ℕ → Bool) (edges : List (Name × ℕ)) → ((v : Name) (p : ℕ) → HasEdge edges v p → test (v, p) ≡ true) → list_all test edges ≡ true
all-edges test [] h = refl
all-edges test (hop ∷ rest) h = and_from _ _ (h hop.0 hop.1 (inl (refl, refl))) (all-edges test rest (λ v p there. h v p (inr there)))

-- some passing edge passes a test
pub some-edge : (test : Name × ℕ → Bool) (edges : List (Name × ℕ)) → list_any test edges ≡ true → (v : Name) × (p : ℕ) × HasEdge edges v p × (test (v, p) ≡ true)
some-edge test [] e = cc
some-edge test (hop ∷ rest) e =
    elim (or_cases (test hop) (list_any test rest) e) [
      | inl here ↦ (hop.0, hop.1, inl (refl, refl), here)
      | inr more ↦ let s = some-edge test rest more in (s.0, s.1, inr s.2, s.3)
    ]

-- an edge that passes a test is found
pub any-edge : (test : Name × ℕ → Bool) (edges : List (Name × ℕ)) (v : Name) (p : ℕ) → HasEdge edges v p → test (v, p) ≡ true → list_any test edges ≡ true
any-edge test [] v p h e = absurd h
any-edge test (hop ∷ rest) v p (inl here) e = or_left _ _ (subst (λ (x : Name × ℕ). test x ≡ true) (λ i. (sym here.0 i, sym here.1 i)) e)
any-edge test (hop ∷ rest) v p (inr there) e = or_right _ _ (any-edge test rest v p there e)

-- the first bound that passes a test
pub found-first : (test : Bound → Bool) (bounds : List Bound) (b : Bound) → is_rising (listed_names bounds) ≡ true → find test bounds ≡ Some b
    → HasBound bounds b.vertex b.price × (test b ≡ true) × ((v : Name) (d : ℕ) → HasBound bounds v d → test (record { vertex = v; price = d }) ≡ true → IsTrue (is_le (name_cmp b.vertex v)))
found-first test [] b rising e = cc
found-first test (bound ∷ rest) b rising e = at (test bound) refl e (found-first test rest b (rising-rest bound rest rising))
  where
    at : (t : Bool) → test bound ≡ t → cond t (Some bound) (find test rest) ≡ Some b
        → (find test rest ≡ Some b → HasBound rest b.vertex b.price × (test b ≡ true) × ((v : Name) (d : ℕ) → HasBound rest v d → test (record { vertex = v; price = d }) ≡ true → IsTrue (is_le (name_cmp b.vertex v))))
        → HasBound (bound ∷ rest) b.vertex b.price × (test b ≡ true) × ((v : Name) (d : ℕ) → HasBound (bound ∷ rest) v d → test (record { vertex = v; price = d }) ≡ true → IsTrue (is_le (name_cmp b.vertex v)))
    at true t f more =
        let is : bound ≡ b = cc in
        (inl (ap (λ (x : Bound). x.vertex) is, ap (λ (x : Bound). x.price) is), subst (λ (x : Bound). test x ≡ true) is t, le is)
      where
        le : bound ≡ b → (v : Name) (d : ℕ) → HasBound (bound ∷ rest) v d → test (record { vertex = v; price = d }) ≡ true → IsTrue (is_le (name_cmp b.vertex v))
        le is v d (inl here) g = subst (λ w. IsTrue (is_le (name_cmp w v))) (sym here.0 ∙ ap (λ (x : Bound). x.vertex) is) (ap is_le (tied_itself nat_list_cmp_total v))
        le is v d (inr there) g = subst (λ (x : Bound). IsTrue (is_le (name_cmp x.vertex v))) is (ap is_le (rising-first bound.vertex rest rising v d there))
    at false t f more = let m = more f in (inr m.0, m.1, le m.2)
      where
        le : ((v : Name) (d : ℕ) → HasBound rest v d → test (record { vertex = v; price = d }) ≡ true → IsTrue (is_le (name_cmp b.vertex v))) → (v : Name) (d : ℕ) → HasBound (bound ∷ rest) v d → test (record { vertex = v; price = d }) ≡ true → IsTrue (is_le (name_cmp b.vertex v))
        le m v d (inl here) g = absurd (both_ways _ t (subst (λ (x : Bound). test x ≡ true) (λ i. record { vertex = sym here.0 i; price = sym here.1 i }) g))
        le m v d (inr there) g = m v d there g

-- a bound that passes a test is found
pub found-some : (test : Bound → Bool) (bounds : List Bound) (v : Name) (d : ℕ) → HasBound bounds v d → test (record { vertex = v; price = d }) ≡ true → (b : Bound) × (find test bounds ≡ Some b)
found-some test [] v d h e = absurd h
found-some test (bound ∷ rest) v d h e = at (test bound) refl h (λ there. found-some test rest v d there e)
  where
    at : (t : Bool) → test bound ≡ t → HasBound (bound ∷ rest) v d → (HasBound rest v d → (b : Bound) × (find test rest ≡ Some b)) → (b : Bound) × (cond t (Some bound) (find test rest) ≡ Some b)
    at true t g more = (bound, refl)
    at false t (inl here) more = absurd (both_ways _ t (subst (λ (x : Bound). test x ≡ true) (λ i. record { vertex = sym here.0 i; price = sym here.1 i }) e))
    at false t (inr there) more = more there
