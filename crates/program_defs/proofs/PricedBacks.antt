-- Walks seen from their ends: a vertex, and the vertices before it, the last one first.
-- Used by Certified, CertifiedBack, PricedAgree and Proving.
use Rattle.std.proofs.Common.{◌≡◌, ◌+◌, ℕ, Bool, true, false, refl, sym, ap, subst, ◌∙◌, List, [], ◌∷◌, ◌++◌, reverse, Option, Some, None, IsTrue, ◌&&◌, arith, if◌then◌else◌, is_some}
use Rattle.std.proofs.lemmas.List.{reverse-append}
use Rattle.weave_data.specs.Names.{same_name, one_name}
use Rattle.weave_data.specs.declared.name.Name.{Name}
use Rattle.graph_ops.specs.Operations.{State}
use Rattle.graph_ops.specs.PlainGraph.{PlainGraph}
use Rattle.graph_ops.proofs.Vertices.{same_name-refl}
use Rattle.program_defs.specs.Prices.{priced_edges, least_price, sum_of, price_of_walk}

module _ (graph : PlainGraph) (key : Name) where
  -- a walk from one vertex over those before the second, the last one first, to the second, with its price
  abbrev pub Back : Name → Name → List Name → ℕ → Type 0
  Back from v [] p = (from ≡ v) × IsTrue (is_some (graph v)) × (p ≡ 0)
  Back from v (u ∷ before) p = (q r : ℕ) × IsTrue (is_some (graph v)) × (least_price v (priced_edges key (graph u)) ≡ Some q) × Back from u before r × (p ≡ r + q)

  -- the same from the start on, for these proofs
  abbrev Forth : Name → List Name → Name → ℕ → Type 0
  Forth v [] to p = (v ≡ to) × IsTrue (is_some (graph v)) × (p ≡ 0)
  Forth v (w ∷ after) to p = (q r : ℕ) × (least_price w (priced_edges key (graph v)) ≡ Some q) × Forth w after to r × (p ≡ q + r)

  both-there : (a b : Option ℕ) (p : ℕ) → sum_of a b ≡ Some p → (q r : ℕ) × (a ≡ Some q) × (b ≡ Some r) × (p ≡ q + r)
  both-there None b p e = cc
  both-there (Some q) None p e = cc
  both-there (Some q) (Some r) p e = (q, r, refl, refl, cc)

  forth-of : (from to v : Name) (after : List Name) (p : ℕ) → price_of_walk graph key from to (v ∷ after) ≡ Some p → (from ≡ v) × Forth v after to p
  forth-of from to v [] p e = at (same_name from v && is_some (graph v) && same_name v to) refl e
    where
      three : (a b c : Bool) → (a && b && c) ≡ true → (a ≡ true) × (b ≡ true) × (c ≡ true)
      three true true true h = (refl, refl, refl)
      three true true false h = cc
      three true false c h = cc
      three false b c h = cc

      at : (b : Bool) → (same_name from v && is_some (graph v) && same_name v to) ≡ b → (if b then Some 0 else None) ≡ Some p → (from ≡ v) × Forth v [] to p
      at true t f = let h = three (same_name from v) (is_some (graph v)) (same_name v to) t in (one_name from v h.0, (one_name v to h.2, h.1, cc))
      at false t f = cc
  forth-of from to v (w ∷ after) p e = at (same_name from v) refl e (λ r. forth-of w to w after r)
    where
      at : (b : Bool) → same_name from v ≡ b → (if b then sum_of (least_price w (priced_edges key (graph v))) (price_of_walk graph key w to (w ∷ after)) else None) ≡ Some p
          → ((r : ℕ) → price_of_walk graph key w to (w ∷ after) ≡ Some r → (w ≡ w) × Forth w after to r) → (from ≡ v) × Forth v (w ∷ after) to p
      at true t f rest = let s = both-there _ _ p f in (one_name from v t, (s.0, s.1, s.2, (rest s.1 s.3).1, s.4))
      at false t f rest = cc

  price-of : (from to : Name) (after : List Name) (p : ℕ) → Forth from after to p → price_of_walk graph key from to (from ∷ after) ≡ Some p
  price-of from to [] p h =
      let same : same_name from to ≡ true = subst (λ w. same_name from w ≡ true) h.0 (same_name-refl from) in
      rw (same_name-refl from, h.1, same) (ap Some (sym h.2))
  price-of from to (w ∷ after) p h =
      rw (same_name-refl from, h.2, price-of w to after h.1 h.3) (ap Some (sym h.4))

  -- one more vertex at the end
  forth-more : (v u to : Name) (after : List Name) (r q : ℕ) → Forth v after u r → least_price to (priced_edges key (graph u)) ≡ Some q → IsTrue (is_some (graph to)) → Forth v (after ++ to ∷ []) to (r + q)
  forth-more v u to [] r q h e there =
      (q, 0, subst (λ w. least_price to (priced_edges key (graph w)) ≡ Some q) (sym h.0) e, (refl, there, refl), omega (arith, h.2))
  forth-more v u to (w ∷ after) r q h e there = (h.0, h.1 + q, h.2, forth-more w u to after h.1 q h.3 e there, omega (arith, h.4))

  -- one more vertex at the start
  back-more : (v w to : Name) (before : List Name) (q r : ℕ) → least_price w (priced_edges key (graph v)) ≡ Some q → IsTrue (is_some (graph v)) → Back w to before r → Back v to (before ++ v ∷ []) (q + r)
  back-more v w to [] q r e there h =
      (q, 0, h.1, subst (λ x. least_price x (priced_edges key (graph v)) ≡ Some q) h.0 e, (refl, there, refl), omega (arith, h.2))
  back-more v w to (u ∷ before) q r e there h = (h.0, q + h.1, h.2, h.3, back-more v w u before q h.1 e there h.4, omega (arith, h.5))

  -- a vertex with a passing edge is there
  edge-there : (v w : Name) (q : ℕ) → least_price w (priced_edges key (graph v)) ≡ Some q → IsTrue (is_some (graph v))
  edge-there v w q e = at (graph v) e
    where
      at : (state : State) → least_price w (priced_edges key state) ≡ Some q → IsTrue (is_some state)
      at None f = cc
      at (Some now) f = refl

  -- a walk is one from its end
  back-of-forth : (v to : Name) (after : List Name) (p : ℕ) → Forth v after to p → (before : List Name) × (reverse (v ∷ after) ≡ to ∷ before) × Back v to before p
  back-of-forth v to [] p h = ([], ap (λ x. x ∷ []) h.0, (h.0, subst (λ x. IsTrue (is_some (graph x))) h.0 h.1, h.2))
  back-of-forth v to (w ∷ after) p h =
      let more = back-of-forth w to after h.1 h.3 in (
        more.0 ++ v ∷ [],
        reverse-append (v ∷ []) (w ∷ after) ∙ ap (λ xs. xs ++ v ∷ []) more.1,
        subst (λ n. Back v to (more.0 ++ v ∷ []) n) (sym h.4) (back-more v w to more.0 h.0 h.1 h.2 (edge-there v w h.0 h.2) more.2),
      )

  -- and the other way round
  forth-of-back : (from to : Name) (before : List Name) (p : ℕ) → Back from to before p → (after : List Name) × (reverse (to ∷ before) ≡ from ∷ after) × Forth from after to p
  forth-of-back from to [] p h = ([], ap (λ x. x ∷ []) (sym h.0), (h.0, subst (λ x. IsTrue (is_some (graph x))) (sym h.0) h.1, h.2))
  forth-of-back from to (u ∷ before) p h =
      let more = forth-of-back from u before h.1 h.4 in (
        more.0 ++ to ∷ [],
        reverse-append (to ∷ []) (u ∷ before) ∙ ap (λ xs. xs ++ to ∷ []) more.1,
        subst (λ n. Forth from (more.0 ++ to ∷ []) to n) (sym h.5) (forth-more from u to more.0 h.1 h.0 more.2 h.3 h.2),
      )

  -- a list is a walk of that price exactly if it is one from its end
  pub back-of : (from to : Name) (walk : List Name) (p : ℕ) → price_of_walk graph key from to walk ≡ Some p → (before : List Name) × (reverse walk ≡ to ∷ before) × Back from to before p
  back-of from to [] p e = cc
  back-of from to (v ∷ after) p e =
      let f = forth-of from to v after p e in
      let b = back-of-forth v to after p f.1 in
      (b.0, b.1, subst (λ x. Back x to b.0 p) (sym f.0) b.2)

  -- and the other way round
  pub of-back : (from to : Name) (before : List Name) (p : ℕ) → Back from to before p → price_of_walk graph key from to (reverse (to ∷ before)) ≡ Some p
  of-back from to before p h =
      let f = forth-of-back from to before p h in
      subst (λ xs. price_of_walk graph key from to xs ≡ Some p) (sym f.1) (price-of from to f.0 p f.2)
