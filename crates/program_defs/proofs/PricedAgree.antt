-- Only the vertices of a closed set that has the start matter.
-- Used by AnswersAgree.
use Rattle.std.proofs.Common.{◌≡◌, ℕ, refl, sym, ap, subst, ◌∙◌, List, [], ◌∷◌, reverse, Option, Some, None, IsTrue, is_some}
use Rattle.std.proofs.lemmas.List.{reverse-reverse}
use Rattle.weave_data.specs.declared.name.Name.{Name}
use Rattle.graph_ops.specs.Operations.{State}
use Rattle.graph_ops.specs.PlainGraph.{PlainGraph}
use Rattle.program_defs.specs.declared.program.Bound.{Bound}
use Rattle.program_defs.specs.Agreement.{HoldsTargets, AgreeOn}
use Rattle.program_defs.specs.PricedAnswer.{bound_at, IsLeastPrice, IsAnswerWalk, IsPricedAnswer}
use Rattle.program_defs.specs.Prices.{priced_edges, HasEdge, least_price, price_of_walk}
use Rattle.program_defs.proofs.PricedEdges.{least-is}
use Rattle.program_defs.proofs.PricedBacks.{Back, back-of, of-back}
use Rattle.program_defs.proofs.Certified.{listed-some, some-listed}
use Rattle.program_defs.proofs.CertifiedBack.{goes-onward}

module _ (key from : Name) (Has : Name → Type 0) where
  module _ (g h : PlainGraph) (closed : HoldsTargets g key from Has) (agree : AgreeOn g h Has) where
    -- a walk of the first graph is one of the second, and stays within the vertices
    same-walk : (v : Name) (before : List Name) (p : ℕ) → Back g key from v before p → Back h key from v before p × Has v
    same-walk v [] p b =
        let has : Has v = subst Has b.0 closed.start in
        ((b.0, subst (λ (s : State). IsTrue (is_some s)) (agree v has) b.1, b.2), has)
    same-walk v (u ∷ before) p b =
        let m = same-walk u before b.1 b.4 in
        let has = closed.onward u v b.0 m.1 (least-is v (priced_edges key (g u)) b.0 b.3) in
        ((b.0, b.1, subst (λ (s : State). IsTrue (is_some s)) (agree v has) b.2, subst (λ (s : State). least_price v (priced_edges key s) ≡ Some b.0) (agree u m.1) b.3, m.0, b.5), has)

    same-price : (to : Name) (walk : List Name) (p : ℕ) → price_of_walk g key from to walk ≡ Some p → price_of_walk h key from to walk ≡ Some p
    same-price to walk p e =
        let b = back-of g key from to walk p e in
        let m = (same-walk to b.0 p b.2).0 in
        subst (λ w. price_of_walk h key from to w ≡ Some p) (ap reverse (sym b.1) ∙ reverse-reverse walk) (of-back h key from to b.0 p m)

    -- the second graph is closed too
    closed-too : HoldsTargets h key from Has
    closed-too =
        record {
          start = closed.start;
          onward = λ u v price has edge. closed.onward u v price has (subst (λ (s : State). HasEdge (priced_edges key s) v price) (sym (agree u has)) edge);
        }

  module _ (g h : PlainGraph) (closed : HoldsTargets g key from Has) (agree : AgreeOn g h Has) where
    there : (to : Name) (walk : List Name) (p : ℕ) → price_of_walk g key from to walk ≡ Some p → price_of_walk h key from to walk ≡ Some p
    there = same-price g h closed agree

    back : (to : Name) (walk : List Name) (p : ℕ) → price_of_walk h key from to walk ≡ Some p → price_of_walk g key from to walk ≡ Some p
    back = same-price h g (closed-too g h closed agree) (λ v has. sym (agree v has))

    least-alike : (v : Name) (price : ℕ) → IsLeastPrice g key from v price → IsLeastPrice h key from v price
    least-alike v price l =
        record {
          met = (l.met.0, there v l.met.0 price l.met.1);
          least = λ walk other e. l.least walk other (back v walk other e);
        }

    walk-alike : (to : Name) (walk : Option (List Name)) (total : ℕ) → IsAnswerWalk g key from to walk total → IsAnswerWalk h key from to walk total
    walk-alike to None total a = (a.0, λ walk. none walk (price_of_walk h key from to walk) refl)
      where
        none : (walk : List Name) (o : Option ℕ) → price_of_walk h key from to walk ≡ o → price_of_walk h key from to walk ≡ None
        none walk None e = e
        none walk (Some p) e = let x = back to walk p e in let y = a.1 walk in cc
    walk-alike to (Some walk) total a =
        record {
          price = there to walk total a.price;
          least = λ other q e. a.least other q (back to other q e);
          first = λ other e. a.first other (back to other total e);
        }

    -- the priced answer is the same
    pub answers-alike : (to : Name) (walk : Option (List Name)) (total : ℕ) (bounds : List Bound) → IsPricedAnswer g from to key walk total bounds → IsPricedAnswer h from to key walk total bounds
    answers-alike to walk total bounds a =
        record {
          led = walk-alike to walk total a.led;
          priced = record {
            rising = a.priced.rising;
            listed = λ v. (
              (λ l. let w = (a.priced.listed v).0 l in let p = listed-some _ w.1 in (w.0, some-listed _ p.0 (there v w.0 p.0 p.1))),
              (λ w. let p = listed-some _ w.1 in (a.priced.listed v).1 (w.0, some-listed _ p.0 (back v w.0 p.0 p.1))),
            );
            least = λ v price e. least-alike v price (a.priced.least v price e);
          };
        }

-- The visited vertices

-- the start and the targets of the listed vertices' passing edges are closed: the visited vertices are among them
pub listed-are-closed : (graph : PlainGraph) (from to key : Name) (walk : Option (List Name)) (total : ℕ) (bounds : List Bound) → IsPricedAnswer graph from to key walk total bounds
    → ((u v : Name) (price : ℕ) → IsTrue (is_some (graph u)) → HasEdge (priced_edges key (graph u)) v price → IsTrue (is_some (bound_at bounds u)) → IsTrue (is_some (graph v)) → IsTrue (is_some (bound_at bounds v)))
listed-are-closed graph from to key walk total bounds answer u v price there edge listed there_v =
    let d = listed-some _ listed in
    let on = goes-onward graph key from bounds answer.priced u v d.0 price d.1 edge there_v in
    some-listed _ on.0 on.1
