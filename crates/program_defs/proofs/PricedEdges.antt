-- Passing edges: each price is at least 1, and of several between the same vertices the least counts.
-- Used by Certified, CertifiedBack, PricedAgree, RowSteps and crate priced_path.
use Rattle.std.proofs.Common.{◌≡◌, ◌≤◌, ℕ, Bool, true, false, min, refl, sym, ap, subst, ◌∙◌, List, [], ◌∷◌, Option, Some, None, ◌&&◌, nat_le, filter_map, inl, inr, arith, if◌then◌else◌}
use Rattle.std.specs.Map.{values_of}
use Rattle.std.specs.List.{cons_option}
use Rattle.std.proofs.lemmas.Bool.{leb-true, both_ways, cases_lt}
use Rattle.weave_data.specs.Names.{same_name, one_name}
use Rattle.weave_data.specs.Pairs.{at_key}
use Rattle.weave_data.specs.declared.name.Name.{Name}
use Rattle.weave_text.specs.Numbers.{is_number, value_of}
use Rattle.graph_ops.specs.Operations.{State}
use Rattle.graph_ops.specs.declared.record.Edge.{Edge}
use Rattle.graph_ops.proofs.Vertices.{same_name-refl}
use Rattle.program_defs.specs.Prices.{price_in, with_price, priced_edge, priced_edges, HasEdge, least_price, lesser, most_price}

both : (a b c : Bool) → (a && b && c) ≡ true → (b ≡ true) × (c ≡ true)
both true true true e = (refl, refl)
both true true false e = cc
both true false c e = cc
both false b c e = cc

-- a price is at least 1, and at most the greatest
pub price-within : (text : Option Name) (p : ℕ) → price_in text ≡ Some p → (1 ≤ p) × (p ≤ most_price)
price-within None p e = cc
price-within (Some text) p e = at (is_number text && nat_le 1 (value_of text) && nat_le (value_of text) most_price) refl e
  where
    at : (b : Bool) → (is_number text && nat_le 1 (value_of text) && nat_le (value_of text) most_price) ≡ b → (if b then Some (value_of text) else None) ≡ Some p → (1 ≤ p) × (p ≤ most_price)
    at true t f =
        let parts = both (is_number text) (nat_le 1 (value_of text)) (nat_le (value_of text) most_price) t in
        let low : 1 ≤ value_of text = leb-true _ _ parts.0 in
        let high : value_of text ≤ most_price = leb-true _ _ parts.1 in
        let same : value_of text ≡ p = cc in
        (subst (λ n. 1 ≤ n) same low, subst (λ n. n ≤ most_price) same high)
    at false t f = cc

-- and so is that of each passing edge
pub edge-within : (key : Name) (state : State) (v : Name) (p : ℕ) → HasEdge (priced_edges key state) v p → (1 ≤ p) × (p ≤ most_price)
edge-within key None v p h = absurd h
edge-within key (Some now) v p h = among (values_of now.edges) h
  where
    one : (target : Name) (text : Option Name) (said : Option ℕ) → price_in text ≡ said → (rest : List (Name × ℕ)) → HasEdge (cons_option (with_price target said) rest) v p → (HasEdge rest v p → (1 ≤ p) × (p ≤ most_price)) → (1 ≤ p) × (p ≤ most_price)
    one target text None e rest h more = more h
    one target text (Some q) e rest (inl same) more = subst (λ n. (1 ≤ n) × (n ≤ most_price)) same.1 (price-within text q e)
    one target text (Some q) e rest (inr there) more = more there

    among : (edges : List Edge) → HasEdge (filter_map (priced_edge key) edges) v p → (1 ≤ p) × (p ≤ most_price)
    among [] h = absurd h
    among (edge ∷ rest) h = one edge.target (at_key key edge.tags) (price_in (at_key key edge.tags)) refl (filter_map (priced_edge key) rest) h (among rest)

-- a passing edge has a price of at least 1
pub hop-positive : (key : Name) (state : State) (v : Name) (p : ℕ) → HasEdge (priced_edges key state) v p → 1 ≤ p
hop-positive key state v p h = (edge-within key state v p h).0

-- the least price is the price of an edge
pub least-is : (v : Name) (edges : List (Name × ℕ)) (q : ℕ) → least_price v edges ≡ Some q → HasEdge edges v q
least-is v [] q e = cc
least-is v (hop ∷ rest) q e = at (same_name hop.0 v) refl (least_price v rest) refl e (least-is v rest)
  where
    at : (b : Bool) → same_name hop.0 v ≡ b → (o : Option ℕ) → least_price v rest ≡ o → (if b then Some (lesser hop.1 o) else o) ≡ Some q → ((r : ℕ) → least_price v rest ≡ Some r → HasEdge rest v r) → HasEdge (hop ∷ rest) v q
    at true same None e f more = inl (one_name hop.0 v same, cc)
    at true same (Some r) e f more =
        let is : min hop.1 r ≡ q = cc in
        elim (cases_lt r hop.1) [
          | inl below ↦ let rest_is : r ≡ q = omega (arith, is, below) in inr (more q (e ∙ ap Some rest_is))
          | inr above ↦ let first_is : hop.1 ≡ q = omega (arith, is, above) in inl (one_name hop.0 v same, first_is)
        ]
    at false other o e f more = inr (more q (e ∙ f))

-- and no edge has a lesser one
pub least-below : (v : Name) (edges : List (Name × ℕ)) (p : ℕ) → HasEdge edges v p → (q : ℕ) × (least_price v edges ≡ Some q) × (q ≤ p)
least-below v [] p h = absurd h
least-below v (hop ∷ rest) p h = at (same_name hop.0 v) refl (least_price v rest) refl h (least-below v rest p)
  where
    at : (b : Bool) → same_name hop.0 v ≡ b → (o : Option ℕ) → least_price v rest ≡ o → HasEdge (hop ∷ rest) v p → (HasEdge rest v p → (q : ℕ) × (least_price v rest ≡ Some q) × (q ≤ p))
        → (q : ℕ) × ((if b then Some (lesser hop.1 o) else o) ≡ Some q) × (q ≤ p)
    at true same None e (inl here) more = (hop.1, refl, omega (arith, here.1))
    at true same None e (inr there) more = let m = more there in cc
    at true same (Some r) e (inl here) more = (min hop.1 r, refl, omega (arith, here.1))
    at true same (Some r) e (inr there) more =
        let m = more there in
        let is : r ≡ m.0 = cc in
        (min hop.1 r, refl, omega (arith, is, m.2))
    at false other o e (inl here) more = absurd (both_ways _ other (subst (λ w. same_name hop.0 w ≡ true) here.0 (same_name-refl hop.0)))
    at false other o e (inr there) more = let m = more there in (m.0, sym e ∙ m.1, m.2)
