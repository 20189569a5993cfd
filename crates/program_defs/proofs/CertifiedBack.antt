-- The priced answer meets the tests.
-- Used by CertificateLaw, PricedAgree and Proving.
use Rattle.std.proofs.Common.{◌≡◌, ◌≤◌, ◌+◌, ℕ, Bool, true, false, refl, sym, ap, subst, subst₂, ◌∙◌, List, [], ◌∷◌, reverse, Option, Some, None, IsTrue, arith, if◌then◌else◌, is_some}
use Rattle.std.specs.Cmp.Lexicographic.{slice_cmp}
use Rattle.std.specs.Ordering.{is_le, ordering_then}
use Rattle.std.specs.declared.cmp.Ordering.{Ordering}
use Rattle.std.specs.declared.cmp.Ordering.TheVariants.{Less, Equal, Greater}
use Rattle.std.proofs.lemmas.Bool.{both_ways}
use Rattle.std.proofs.lemmas.Cmp.{nat_list_cmp_total, tied_itself}
use Rattle.std.proofs.lemmas.List.{reverse-reverse}
use Rattle.std.proofs.lemmas.Option.{same_Some}
use Rattle.weave_data.specs.Names.{name_cmp, same_name}
use Rattle.weave_data.specs.declared.name.Name.{Name}
use Rattle.graph_ops.specs.PlainGraph.{PlainGraph}
use Rattle.graph_ops.proofs.Vertices.{same_name-refl}
use Rattle.program_defs.specs.declared.program.Bound.{Bound}
use Rattle.program_defs.specs.PriceTests.{Meets, GoesBack, HasWalkBack, MeetsTests}
use Rattle.program_defs.specs.PricedAnswer.{bound_at, AreLeastPrices, IsAnswerWalk}
use Rattle.program_defs.specs.Prices.{priced_edges, HasEdge}
use Rattle.program_defs.proofs.PricedEdges.{least-is, least-below}
use Rattle.program_defs.proofs.PricedBacks.{Back, back-of, of-back}
use Rattle.program_defs.proofs.Certified.{listed-some}

-- of two lists with the same first name, the rests are in the same order
beheaded : (v : Name) (xs ys : List Name) → IsTrue (is_le (slice_cmp name_cmp (v ∷ xs) (v ∷ ys))) → IsTrue (is_le (slice_cmp name_cmp xs ys))
beheaded v xs ys h = rw (tied_itself nat_list_cmp_total v) at h

first-le : (u w : Name) (xs ys : List Name) → IsTrue (is_le (slice_cmp name_cmp (u ∷ xs) (w ∷ ys))) → IsTrue (is_le (name_cmp u w))
first-le u w xs ys h = at (name_cmp u w) h
  where
    at : (o : Ordering) → IsTrue (is_le (ordering_then o (slice_cmp name_cmp xs ys))) → IsTrue (is_le o)
    at Less f = refl
    at Equal f = refl
    at Greater f = cc

module _ (graph : PlainGraph) (key from : Name) (bounds : List Bound) (priced : AreLeastPrices graph key from bounds) where
  -- the end of a walk is there
  end-there : (v : Name) (before : List Name) (p : ℕ) → Back graph key from v before p → IsTrue (is_some (graph v))
  end-there v [] p h = h.1
  end-there v (u ∷ before) p h = h.2

  -- the end of a walk is listed, with a bound of at most its price
  listed-below : (v : Name) (before : List Name) (p : ℕ) → Back graph key from v before p → (d : ℕ) × (bound_at bounds v ≡ Some d) × (d ≤ p)
  listed-below v before p h =
      let w = of-back graph key from v before p h in
      let d = listed-some _ ((priced.listed v).1 (reverse (v ∷ before), ap is_some w)) in
      (d.0, d.1, (priced.least v d.0 d.1).least (reverse (v ∷ before)) p w)

  -- each listed vertex has a walk of its bound
  walk-of : (v : Name) (d : ℕ) → bound_at bounds v ≡ Some d → (before : List Name) × Back graph key from v before d
  walk-of v d e = let m = (priced.least v d e).met in let b = back-of graph key from v m.0 d m.1 in (b.0, b.2)

  -- no walk has a lesser price
  below : (v : Name) (d : ℕ) → bound_at bounds v ≡ Some d → (before : List Name) (p : ℕ) → Back graph key from v before p → d ≤ p
  below v d e before p h = let l = listed-below v before p h in let same : l.0 ≡ d = same_Some l.0 d (sym l.1 ∙ e) in omega (arith, l.2, same)

  start-listed : bound_at bounds from ≡ (if is_some (graph from) then Some 0 else None)
  start-listed = at (is_some (graph from)) refl (bound_at bounds from) refl
    where
      at : (b : Bool) → is_some (graph from) ≡ b → (o : Option ℕ) → bound_at bounds from ≡ o → bound_at bounds from ≡ (if b then Some 0 else None)
      at true t o e =
          let l = listed-below from [] 0 (refl, t, refl) in
          l.1 ∙ ap Some (omega (arith, l.2))
      at false t None e = e
      at false t (Some d) e = let w = walk-of from d e in absurd (both_ways _ t (end-there from w.0 d w.1))

  -- the bounds of a priced answer go onward
  pub goes-onward : (u v : Name) (start price : ℕ) → bound_at bounds u ≡ Some start → HasEdge (priced_edges key (graph u)) v price → IsTrue (is_some (graph v))
      → (bound : ℕ) × (bound_at bounds v ≡ Some bound) × (bound ≤ start + price)
  goes-onward u v start price e edge there =
      let l = least-below v (priced_edges key (graph u)) price edge in
      let w = walk-of u start e in
      let b = listed-below v (u ∷ w.0) (start + l.0) (l.0, start, there, l.1, w.1, refl) in
      (b.0, b.1, omega (arith, b.2, l.2))

  -- the last edge of a walk of least price meets the bound
  last-meets : (v u : Name) (before : List Name) (d : ℕ) → bound_at bounds v ≡ Some d → (h : Back graph key from v (u ∷ before) d) → Meets graph key from bounds u v × (bound_at bounds u ≡ Some h.1)
  last-meets v u before d e h =
      let b = listed-below u before h.1 h.4 in
      let w = walk-of u b.0 b.1 in
      let least : d ≤ b.0 + h.0 = below v d e (u ∷ w.0) (b.0 + h.0) (h.0, b.0, h.2, h.3, w.1, refl) in
      let same : b.0 ≡ h.1 = omega (arith, least, b.2, h.5) in
      (record { start = b.0; price = h.0; end = d; listed = b.1; edge = least-is v (priced_edges key (graph u)) h.0 h.3; target = e; sum = omega (arith, same, h.5) }, b.1 ∙ ap Some same)

  is-met : (v : Name) (d : ℕ) → bound_at bounds v ≡ Some d → same_name from v ≡ false → (u : Name) × Meets graph key from bounds u v
  is-met v d e other = let w = walk-of v d e in at w.0 w.1
    where
      at : (before : List Name) → Back graph key from v before d → (u : Name) × Meets graph key from bounds u v
      at [] h = absurd (both_ways _ other (subst (λ w. same_name from w ≡ true) h.0 (same_name-refl from)))
      at (u ∷ before) h = (u, (last-meets v u before d e h).0)

  -- the first walk of least price goes back by the least names
  goes-back : (v : Name) (before : List Name) (d : ℕ) → bound_at bounds v ≡ Some d → Back graph key from v before d
      → ((other : List Name) → Back graph key from v other d → IsTrue (is_le (slice_cmp name_cmp before other))) → GoesBack graph key from bounds v before
  goes-back v [] d e h first = h.0
  goes-back v (u ∷ before) d e h first =
      let m = last-meets v u before d e h in (
        record {
          meets = m.0;
          least = λ other o.
              let w = walk-of other o.start o.listed in
              let l = least-below v (priced_edges key (graph other)) o.price o.edge in
              let same : o.end ≡ d = same_Some o.end d (sym o.target ∙ e) in
              let least : d ≤ o.start + l.0 = below v d e (other ∷ w.0) (o.start + l.0) (l.0, o.start, h.2, l.1, w.1, refl) in
              first-le u other before w.0 (first (other ∷ w.0) (l.0, o.start, h.2, l.1, w.1, omega (arith, least, l.2, o.sum, same)));
        },
        goes-back u before h.1 m.1 h.4 (λ other g. beheaded u before other (first (u ∷ other) (h.0, h.1, h.2, h.3, g, h.5))),
      )

  module _ (to : Name) (total : ℕ) where
    walks-back : (given : Option (List Name)) → IsAnswerWalk graph key from to given total → HasWalkBack graph key from bounds to given total
    walks-back None h = (at (bound_at bounds to) refl, h.0)
      where
        at : (o : Option ℕ) → bound_at bounds to ≡ o → bound_at bounds to ≡ None
        at None e = e
        at (Some d) e = let m = (priced.least to d e).met in let none = h.1 m.0 in cc
    walks-back (Some given) h =
        let b = back-of graph key from to given total h.price in
        let l = listed-below to b.0 total b.2 in
        let w = walk-of to l.0 l.1 in
        let le = h.least (reverse (to ∷ w.0)) l.0 (of-back graph key from to w.0 l.0 w.1) in
        let listed : bound_at bounds to ≡ Some total = l.1 ∙ ap Some (omega (arith, l.2, le)) in (
          b.0,
          listed,
          sym (reverse-reverse given) ∙ ap reverse b.1,
          goes-back to b.0 total listed b.2 (λ other g.
              beheaded to b.0 other (subst₂ (λ xs ys. IsTrue (is_le (slice_cmp name_cmp xs ys))) b.1 (reverse-reverse (to ∷ other)) (h.first (reverse (to ∷ other)) (of-back graph key from to other total g)))),
        )

    -- the tests
    pub complete : (given : Option (List Name)) → IsAnswerWalk graph key from to given total → MeetsTests graph key from bounds to given total
    complete given h =
        record {
          certified = record {
            rising = priced.rising;
            present = λ v l. let d = listed-some _ l in let w = walk-of v d.0 d.1 in end-there v w.0 d.0 w.1;
            start = start-listed;
            onward = goes-onward;
            met = λ v l other. let d = listed-some _ l in is-met v d.0 d.1 other;
          };
          led = walks-back given h;
        }
