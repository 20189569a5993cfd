-- An answer that meets the tests is the priced answer.
-- Used by CertificateLaw, CertificateTests, CertifiedBack, NumberedRows, OnePrice, PricedAgree, Proving and WalkBack.
use Rattle.std.proofs.Common.{◌≡◌, ◌≤◌, ◌<◌, ◌+◌, ℕ, zero, suc, Bool, true, false, refl, sym, ap, subst, ◌∙◌, List, [], ◌∷◌, reverse, Option, Some, None, IsTrue, arith, if◌then◌else◌, is_some}
use Rattle.std.specs.Cmp.Lexicographic.{slice_cmp}
use Rattle.std.specs.Ordering.{is_le, ordering_then}
use Rattle.std.specs.declared.cmp.Ordering.{Ordering}
use Rattle.std.specs.declared.cmp.Ordering.TheVariants.{Less, Equal, Greater}
use Rattle.std.specs.Ordering.{is_eq}
use Rattle.std.proofs.lemmas.Cmp.{nat_list_cmp_total, tied_itself}
use Rattle.std.proofs.lemmas.List.{reverse-reverse}
use Rattle.weave_data.specs.Names.{name_cmp, same_name, one_name}
use Rattle.weave_data.specs.declared.name.Name.{Name}
use Rattle.graph_ops.specs.PlainGraph.{PlainGraph}
use Rattle.program_defs.specs.declared.program.Bound.{Bound}
use Rattle.program_defs.specs.PriceTests.{Meets, GoesBack, HasWalkBack, AreCertified, MeetsTests}
use Rattle.program_defs.specs.PricedAnswer.{bound_at, AreLeastPrices, IsAnswerWalk, IsPricedAnswer}
use Rattle.program_defs.specs.Prices.{priced_edges, price_of_walk}
use Rattle.program_defs.proofs.PricedEdges.{hop-positive, least-is, least-below}
use Rattle.program_defs.proofs.PricedBacks.{Back, back-of, of-back}

-- the vertex that a test found there
pub listed-some : (o : Option ℕ) → IsTrue (is_some o) → (d : ℕ) × (o ≡ Some d)
listed-some None h = cc
listed-some (Some d) h = (d, refl)

-- what is listed with a price is listed
pub some-listed : (o : Option ℕ) (d : ℕ) → o ≡ Some d → IsTrue (is_some o)
some-listed o d e = ap is_some e

module _ (graph : PlainGraph) (key from : Name) (bounds : List Bound) (tests : AreCertified graph key from bounds) where
  -- a start that is listed is there, with price 0
  start-is : (d : ℕ) → bound_at bounds from ≡ Some d → (d ≡ 0) × IsTrue (is_some (graph from))
  start-is d e = at (is_some (graph from)) refl (sym e ∙ tests.start)
    where
      at : (b : Bool) → is_some (graph from) ≡ b → Some d ≡ (if b then Some 0 else None) → (d ≡ 0) × IsTrue (is_some (graph from))
      at true t f = (cc, t)
      at false t f = cc

  -- the end of each walk from the start is listed, with a bound of at most its price
  pub no-less : (v : Name) (before : List Name) (p : ℕ) → Back graph key from v before p → (d : ℕ) × (bound_at bounds v ≡ Some d) × (d ≤ p)
  no-less v [] p h = (0, subst (λ w. bound_at bounds w ≡ Some 0) h.0 (tests.start ∙ rw there refl), omega arith)
    where
      there : is_some (graph from) ≡ true
      there = subst (λ w. IsTrue (is_some (graph w))) (sym h.0) h.1
  no-less v (u ∷ before) p h =
      let b = no-less u before h.1 h.4 in
      let on = tests.onward u v b.0 h.0 b.1 (least-is v (priced_edges key (graph u)) h.0 h.3) h.2 in
      (on.0, on.1, omega (arith, on.2, b.2, h.5))

  -- over an edge that meets a bound, a walk of that bound goes on to one of that bound
  onto : (u v : Name) (m : Meets graph key from bounds u v) (before : List Name) → Back graph key from u before m.start → Back graph key from v (u ∷ before) m.end
  onto u v m before h =
      let l = least-below v (priced_edges key (graph u)) m.price m.edge in
      let there = tests.present v (some-listed _ m.end m.target) in
      let longer : Back graph key from v (u ∷ before) (m.start + l.0) = (l.0, m.start, there, l.1, h, refl) in
      let b = no-less v (u ∷ before) (m.start + l.0) longer in
      let same : b.0 ≡ m.end = some_same b.0 m.end (sym b.1 ∙ m.target) in
      subst (λ n. Back graph key from v (u ∷ before) n) (omega (arith, b.2, same, l.2, m.sum)) longer
    where
      some_same : (a b : ℕ) → Some a ≡ Some b → a ≡ b
      some_same a b e = cc

  -- each listed vertex has a walk of its bound
  walk-below : (n : ℕ) (v : Name) (d : ℕ) → d < n → bound_at bounds v ≡ Some d → (before : List Name) × Back graph key from v before d
  walk-below zero v d below e = absurd (omega (arith, below))
  walk-below (suc n) v d below e = at (same_name from v) refl (λ u k less listed. walk-below n u k less listed)
    where
      at : (b : Bool) → same_name from v ≡ b → ((u : Name) (k : ℕ) → k < n → bound_at bounds u ≡ Some k → (before : List Name) × Back graph key from u before k) → (before : List Name) × Back graph key from v before d
      at true same more =
          let is : from ≡ v = one_name from v same in
          let s = start-is d (subst (λ w. bound_at bounds w ≡ Some d) (sym is) e) in
          ([], (is, subst (λ w. IsTrue (is_some (graph w))) is s.1, s.0))
      at false other more =
          let met = tests.met v (some-listed _ d e) other in
          let m = met.1 in
          let end_is : m.end ≡ d = some_same m.end d (sym m.target ∙ e) in
          let positive = hop-positive key (graph met.0) v m.price m.edge in
          let b = more met.0 m.start (omega (arith, m.sum, end_is, positive, below)) m.listed in
          (met.0 ∷ b.0, subst (λ k. Back graph key from v (met.0 ∷ b.0) k) end_is (onto met.0 v m b.0 b.1))
        where
          some_same : (a b : ℕ) → Some a ≡ Some b → a ≡ b
          some_same a b f = cc

  -- each listed vertex has a walk of its bound
  pub walk-to : (v : Name) (d : ℕ) → bound_at bounds v ≡ Some d → (before : List Name) × Back graph key from v before d
  walk-to v d e = walk-below (suc d) v d (omega arith) e

  -- the vertices that a walk goes back over are a walk of its end's bound
  goes-back-walks : (v : Name) (before : List Name) (d : ℕ) → bound_at bounds v ≡ Some d → GoesBack graph key from bounds v before → Back graph key from v before d
  goes-back-walks v [] d e h =
      let s = start-is d (subst (λ w. bound_at bounds w ≡ Some d) (sym h) e) in
      (h, subst (λ w. IsTrue (is_some (graph w))) h s.1, s.0)
  goes-back-walks v (u ∷ before) d e h =
      let m = h.0.meets in
      let same : m.end ≡ d = some_same m.end d (sym m.target ∙ e) in
      subst (λ k. Back graph key from v (u ∷ before) k) same (onto u v m before (goes-back-walks u before m.start m.listed h.1))
    where
      some_same : (a b : ℕ) → Some a ≡ Some b → a ≡ b
      some_same a b f = cc

  -- and of the walks of this price it is the first, compared from the ends
  goes-back-first : (v : Name) (before other : List Name) (d : ℕ) → bound_at bounds v ≡ Some d → GoesBack graph key from bounds v before → Back graph key from v other d → IsTrue (is_le (slice_cmp name_cmp before other))
  goes-back-first v [] [] d e h g = refl
  goes-back-first v [] (w ∷ other) d e h g = refl
  goes-back-first v (u ∷ before) [] d e h g =
      let m = h.0.meets in
      let same : m.end ≡ d = some_same m.end d (sym m.target ∙ e) in
      absurd (omega (arith, same, g.2, m.sum, hop-positive key (graph u) v m.price m.edge))
    where
      some_same : (a b : ℕ) → Some a ≡ Some b → a ≡ b
      some_same a b f = cc
  goes-back-first v (u ∷ before) (w ∷ other) d e h g =
      let b = no-less w other g.1 g.4 in
      let edge = least-is v (priced_edges key (graph w)) g.0 g.3 in
      let on = tests.onward w v b.0 g.0 b.1 edge g.2 in
      let same : on.0 ≡ d = some_same on.0 d (sym on.1 ∙ e) in
      let less : b.0 ≡ g.1 = omega (arith, on.2, same, b.2, g.5) in
      let meets : Meets graph key from bounds w v = record { start = b.0; price = g.0; end = d; listed = b.1; edge = edge; target = e; sum = omega (arith, less, g.5) } in
      at (name_cmp u w) refl (h.0.least w meets) (λ is. goes-back-first u before other h.0.meets.start h.0.meets.listed h.1 (back_is is b.0 b.1 less))
    where
      some_same : (a b : ℕ) → Some a ≡ Some b → a ≡ b
      some_same a b f = cc

      back_is : u ≡ w → (k : ℕ) → bound_at bounds w ≡ Some k → k ≡ g.1 → Back graph key from u other h.0.meets.start
      back_is is k listed same =
          let one : Some h.0.meets.start ≡ Some k = sym h.0.meets.listed ∙ subst (λ x. bound_at bounds x ≡ Some k) (sym is) listed in
          subst (λ n. Back graph key from u other n) (sym same ∙ sym (some_same _ _ one)) (subst (λ x. Back graph key from x other g.1) (sym is) g.4)

      at : (o : Ordering) → name_cmp u w ≡ o → IsTrue (is_le o) → (u ≡ w → IsTrue (is_le (slice_cmp name_cmp before other))) → IsTrue (is_le (ordering_then o (slice_cmp name_cmp before other)))
      at Less f le more = refl
      at Equal f le more = more (one_name u w (ap is_eq f))
      at Greater f le more = cc

  -- the bounds
  pub sound-bounds : AreLeastPrices graph key from bounds
  sound-bounds =
      record {
        rising = tests.rising;
        listed = λ v. (
          (λ h. let d = listed-some _ h in
              let b = walk-to v d.0 d.1 in
              (reverse (v ∷ b.0), ap is_some (of-back graph key from v b.0 d.0 b.1))),
          (λ w. let p = listed-some _ w.1 in
              let b = back-of graph key from v w.0 p.0 p.1 in
              some-listed _ _ ((no-less v b.0 p.0 b.2).1)),
        );
        least = λ v price e.
            record {
              met = let b = walk-to v price e in (reverse (v ∷ b.0), of-back graph key from v b.0 price b.1);
              least = λ w q f. let b = back-of graph key from v w q f in at_least v price e b.0 q b.2;
            };
      }
    where
      some_same : (a b : ℕ) → Some a ≡ Some b → a ≡ b
      some_same a b f = cc

      at_least : (v : Name) (price : ℕ) → bound_at bounds v ≡ Some price → (before : List Name) (q : ℕ) → Back graph key from v before q → price ≤ q
      at_least v price e before q h = let n = no-less v before q h in let same : n.0 ≡ price = some_same n.0 price (sym n.1 ∙ e) in omega (arith, n.2, same)

  -- the walk
  sound-walk : (to : Name) (total : ℕ) (given : Option (List Name)) → HasWalkBack graph key from bounds to given total → IsAnswerWalk graph key from to given total
  sound-walk to total None h = (h.1, λ w. none w (price_of_walk graph key from to w) refl)
    where
      none : (w : List Name) (o : Option ℕ) → price_of_walk graph key from to w ≡ o → price_of_walk graph key from to w ≡ None
      none w None e = e
      none w (Some p) e = let b = back-of graph key from to w p e in let n = no-less to b.0 p b.2 in cc
  sound-walk to total (Some given) h =
      record {
        price = subst (λ w. price_of_walk graph key from to w ≡ Some total) (sym h.2) (of-back graph key from to h.0 total (goes-back-walks to h.0 total h.1 h.3));
        least = λ other q f. (sound-bounds.least to total h.1).least other q f;
        first = λ other f. let b = back-of graph key from to other total f in
            let le = goes-back-first to h.0 b.0 total h.1 h.3 b.2 in
            let turned : reverse given ≡ to ∷ h.0 = ap reverse h.2 ∙ reverse-reverse (to ∷ h.0) in
            rw (turned, b.1) (headed to h.0 b.0 le);
      }
    where
      headed : (v : Name) (xs ys : List Name) → IsTrue (is_le (slice_cmp name_cmp xs ys)) → IsTrue (is_le (slice_cmp name_cmp (v ∷ xs) (v ∷ ys)))
      headed v xs ys h = rw (tied_itself nat_list_cmp_total v) h

-- the answer
pub sound : (graph : PlainGraph) (key from : Name) (bounds : List Bound) (to : Name) (walk : Option (List Name)) (total : ℕ) → MeetsTests graph key from bounds to walk total → IsPricedAnswer graph from to key walk total bounds
sound graph key from bounds to walk total tests =
    record { led = sound-walk graph key from bounds tests.certified to total walk tests.led; priced = sound-bounds graph key from bounds tests.certified }
