-- Bounds by number, and what their certificate proves.
-- Used by `absent_starts_lead_nowhere`, `is_certificate`, `proves` and `proves_by`.
use Rattle.std.proofs.Common.{◌≡◌, ℕ, ◌+◌, Bool, true, false, refl, sym, ap, subst, ◌∙◌, List, [], ◌∷◌, length, Option, Some, None, slice_get, IsTrue, IsSome, ◌↔◌, arith, is_some, if◌then◌else◌, ◌||◌}
use Rattle.std.proofs.lemmas.Bool.{both_ways}
use Rattle.std.proofs.lemmas.List.{length-map}
use Rattle.std.proofs.lemmas.Option.{same_Some, none-some}
use Rattle.weave_data.specs.Names.{same_name, one_name}
use Rattle.weave_data.specs.declared.name.Name.{Name}
use Rattle.graph_ops.specs.Mentions.{is_among}
use Rattle.graph_ops.specs.Operations.{State}
use Rattle.graph_ops.specs.PlainGraph.{PlainGraph}
use Rattle.program_defs.specs.declared.program.Bound.{Bound}
use Rattle.program_defs.specs.Labels.{label_in, row_in, AreNumbersOf, AreOnward, bounds_of, HoldsListed, IsCertificate, listed_prices, listed_names}
use Rattle.program_defs.specs.Parents.{MeetsAt, AreParents, IsSeenBefore}
use Rattle.program_defs.specs.PriceTests.{AreCertified}
use Rattle.program_defs.specs.PricedAnswer.{bound_at, IsPricedAnswer}
use Rattle.program_defs.specs.Prices.{price_of_walk}
use Rattle.program_defs.specs.Rising.{is_rising}
use Rattle.program_defs.proofs.Certified.{listed-some, some-listed}
use Rattle.program_defs.proofs.CertifiedBack.{complete}
use Rattle.program_defs.proofs.NumberedRows.{found, in-table, listed, named}
use Rattle.program_defs.proofs.OnePrice.{answer-one}
use Rattle.program_defs.proofs.Placing.{one-number}
use Rattle.program_defs.proofs.PricedBacks.{Back, back-of}

-- A start that is absent

start-there : (graph : PlainGraph) (key from v : Name) (before : List Name) (p : ℕ) → Back graph key from v before p → IsTrue (is_some (graph from))
start-there graph key from v [] p h = subst (λ w. IsTrue (is_some (graph w))) (sym h.0) h.1
start-there graph key from v (u ∷ before) p h = start-there graph key from u before h.1 h.4

-- no walk leads from it, and nothing is listed
pub nothing-from-absent : (graph : PlainGraph) (from to key : Name) → graph from ≡ None → IsPricedAnswer graph from to key None 0 []
nothing-from-absent graph from to key none =
    record {
      led = (refl, λ walk. no-walk to walk);
      priced = record {
        rising = refl;
        listed = λ v. ((λ h. cc), (λ w. let e = no-walk v w.0 in absurd (none-some _ (sym e ∙ (listed-some _ w.1).1))));
        least = λ v price e. cc;
      };
    }
  where
    no-walk : (to : Name) (walk : List Name) → price_of_walk graph key from to walk ≡ None
    no-walk to walk = at (price_of_walk graph key from to walk) refl
      where
        at : (o : Option ℕ) → price_of_walk graph key from to walk ≡ o → price_of_walk graph key from to walk ≡ None
        at None e = e
        at (Some p) e =
            let b = back-of graph key from to walk p e in
            let there = start-there graph key from to b.0 p b.2 in
            absurd (both_ways _ (ap is_some none) there)

-- Lists of bounds

-- the bounds of the names and the labels of bounds are these bounds
pub bounds-are : (bounds : List Bound) → bounds_of (listed_names bounds) (listed_prices bounds) ≡ bounds
bounds-are [] = refl
bounds-are (bound ∷ bounds) = ap (λ (rest : List Bound). record { vertex = bound.vertex; price = bound.price } ∷ rest) (bounds-are bounds)

-- a vertex is listed exactly if it is among their names
pub listed-among : (bounds : List Bound) (v : Name) → is_some (bound_at bounds v) ≡ is_among (listed_names bounds) v
listed-among [] v = refl
listed-among (bound ∷ bounds) v = at (same_name bound.vertex v) (listed-among bounds v)
  where
    at : (b : Bool) → is_some (bound_at bounds v) ≡ is_among (listed_names bounds) v → is_some (if b then Some bound.price else bound_at bounds v) ≡ b || is_among (listed_names bounds) v
    at true e = refl
    at false e = e

-- each of them has a label
pub numbers-labels : (graph : PlainGraph) (key : Name) (bounds : List Bound) (vertices : List Name) (labels : List (Option ℕ)) (rows : List (List (ℕ × ℕ))) → AreNumbersOf graph key bounds vertices labels rows → length rows ≡ length labels
numbers-labels graph key bounds vertices labels rows numbers =
    numbers.len ∙ ap length numbers.names ∙ length-map bounds (λ (bound : Bound). bound.vertex) ∙ sym (length-map bounds (λ (bound : Bound). Some bound.price)) ∙ sym (ap length numbers.prices)

-- what certified bounds hold
pub certified-holds : (graph : PlainGraph) (key from : Name) (bounds : List Bound) → AreCertified graph key from bounds → HoldsListed graph key (listed_names bounds)
certified-holds graph key from bounds cert =
    record {
      rising = cert.rising;
      present = λ v k. cert.present v (listed-among bounds v ∙ k);
      onward = λ u v price k edge there.
          let d = listed-some _ (listed-among bounds u ∙ k) in
          let on = cert.onward u v d.0 price d.1 edge there in
          sym (listed-among bounds v) ∙ some-listed _ on.0 on.1;
    }

-- By number

module _ (graph : PlainGraph) (key from : Name) (bounds : List Bound) (vertices : List Name) (labels : List (Option ℕ)) (rows : List (List (ℕ × ℕ))) (start : ℕ)
    (numbers : AreNumbersOf graph key bounds vertices labels rows) (begin : slice_get vertices start ≡ Some from) (all : length labels ≡ length vertices) where
  -- they are these bounds
  pub bounds-of-numbers : bounds_of vertices labels ≡ bounds
  bounds-of-numbers = (λ i. bounds_of (numbers.names i) (numbers.prices i)) ∙ bounds-are bounds

  -- certified bounds have certified labels
  pub numbers-certified : AreCertified graph key from bounds → IsCertificate (row_in rows) start (label_in labels)
  numbers-certified given =
      record {
        begin =
            let at = bound-place from 0 (cert.start ∙ rw (numbers.between.present start from begin) refl) in
            subst (λ i. label_in labels i ≡ Some 0) (one-number vertices rising at.0 start from at.1 begin) at.2;
        onward = λ u d k w p e edge.
            let x = named vertices u (omega (arith, in-table labels u d e, all)) in
            let y = numbers.between.edges u k w p x.0 x.1 edge in
            let near = cert.onward x.0 y.0 d p (listed vertices rising labels u x.0 d x.1 e) y.2 (numbers.between.present w y.0 y.1) in
            let at = bound-place y.0 near.0 near.1 in
            (near.0, subst (λ i. label_in labels i ≡ Some near.0) (one-number vertices rising at.0 w y.0 at.1 y.1) at.2, near.2);
        met = λ v d e other.
            let x = named vertices v (omega (arith, in-table labels v d e, all)) in
            let bound = listed vertices rising labels v x.0 d x.1 e in
            let met = cert.met x.0 (some-listed _ d bound) (apart v x.0 x.1 other) in
            let m = met.1 in
            let at = bound-place met.0 m.start m.listed in
            let a = numbers.between.all at.0 m.price met.0 x.0 at.1 m.edge (numbers.between.present v x.0 x.1) in
            let vi : a.0 ≡ v = one-number vertices rising a.0 v x.0 a.2 x.1 in
            let end : m.end ≡ d = same_Some m.end d (sym m.target ∙ bound) in
            (at.0, m.start, a.1, m.price, at.2, subst (λ i. slice_get (row_in rows at.0) a.1 ≡ Some (i, m.price)) vi a.3, sym end ∙ m.sum);
      }
    where
      rising : IsTrue (is_rising vertices)
      rising = numbers.between.rising

      cert : AreCertified graph key from (bounds_of vertices labels)
      cert = subst (λ (list : List Bound). AreCertified graph key from list) (sym bounds-of-numbers) given

      bound-place : (v : Name) (d : ℕ) → bound_at (bounds_of vertices labels) v ≡ Some d → (i : ℕ) × (slice_get vertices i ≡ Some v) × (label_in labels i ≡ Some d)
      bound-place = found vertices rising labels

      apart : (v : ℕ) (x : Name) → slice_get vertices v ≡ Some x → (v ≡ start → ⊥) → same_name from x ≡ false
      apart v x at other = not-same (same_name from x) refl
        where
          not-same : (b : Bool) → same_name from x ≡ b → same_name from x ≡ false
          not-same true e = absurd (other (one-number vertices rising v start from (at ∙ ap Some (sym (one_name from x e))) begin))
          not-same false e = e

  -- an answer with other labels is no priced answer
  pub no-certificate : (to : Name) (walk : Option (List Name)) (total : ℕ) → (IsCertificate (row_in rows) start (label_in labels) → ⊥) → IsPricedAnswer graph from to key walk total bounds → ⊥
  no-certificate to walk total none answer = none (numbers-certified (complete graph key from bounds answer.priced to total walk answer.led).certified)

  -- the answer with the walk and the price to which the labels lead is the only one
  pub led-is-answer : (to : Name) (led walk : Option (List Name)) (price total : ℕ) → IsPricedAnswer graph from to key led price (bounds_of vertices labels)
      → ((price ≡ total) × (led ≡ walk)) ↔ IsPricedAnswer graph from to key walk total bounds
  led-is-answer to led walk price total right = (
    (λ same. subst (λ (list : List Bound). IsPricedAnswer graph from to key walk total list) bounds-of-numbers (subst (λ w. IsPricedAnswer graph from to key w total (bounds_of vertices labels)) same.1 (subst (λ n. IsPricedAnswer graph from to key led n (bounds_of vertices labels)) same.0 right))),
    (λ answer. let one = answer-one graph from to key led walk price total (bounds_of vertices labels) bounds right answer in (one.1, one.0)),
  )

-- an answer without its start among the listed vertices
pub nothing-or-wrong : (graph : PlainGraph) (from to key : Name) (walk : Option (List Name)) (total : ℕ) (bounds : List Bound) → is_among (listed_names bounds) from ≡ false
    → ((graph from ≡ None) × (walk ≡ None) × (total ≡ 0) × (bounds ≡ [])) ↔ IsPricedAnswer graph from to key walk total bounds
nothing-or-wrong graph from to key walk total bounds unlisted = (
  (λ nothing. subst (λ (list : List Bound). IsPricedAnswer graph from to key walk total list) (sym nothing.3) (subst (λ n. IsPricedAnswer graph from to key walk n []) (sym nothing.2) (subst (λ w. IsPricedAnswer graph from to key w 0 []) (sym nothing.1) (nothing-from-absent graph from to key nothing.0)))),
  (λ answer. only answer (graph from) refl),
)
  where
    only : IsPricedAnswer graph from to key walk total bounds → (state : State) → graph from ≡ state → (graph from ≡ None) × (walk ≡ None) × (total ≡ 0) × (bounds ≡ [])
    only answer None e =
        let one = answer-one graph from to key walk None total 0 bounds [] answer (nothing-from-absent graph from to key e) in (e, one.0, one.1, one.2)
    only answer (Some now) e =
        let cert = (complete graph key from bounds answer.priced to total walk answer.led).certified in
        let bound : bound_at bounds from ≡ Some 0 = cert.start ∙ ap (λ (s : State). if is_some s then Some 0 else None) e in
        absurd (both_ways _ unlisted (sym (listed-among bounds from) ∙ ap is_some bound))

-- an answer whose listed vertices lack something is no priced answer
pub not-held : (graph : PlainGraph) (from to key : Name) (walk : Option (List Name)) (total : ℕ) (bounds : List Bound) → (HoldsListed graph key (listed_names bounds) → ⊥) → IsPricedAnswer graph from to key walk total bounds → ⊥
not-held graph from to key walk total bounds none answer =
    none (certified-holds graph key from bounds (complete graph key from bounds answer.priced to total walk answer.led).certified)

-- labels are a certificate exactly if the start has 0, they are onward, and each other labelled vertex has a parent
pub certificate-by-parents : (rows : List (List (ℕ × ℕ))) (labels parents : List (Option ℕ)) (start : ℕ) → length labels ≡ length rows → AreParents rows labels (IsSeenBefore (length rows)) (length rows) parents
    → ((label_in labels start ≡ Some 0) × AreOnward (row_in rows) (label_in labels) × ((v d : ℕ) → label_in labels v ≡ Some d → (v ≡ start → ⊥) → IsSome (label_in parents v)))
    ↔ IsCertificate (row_in rows) start (label_in labels)
certificate-by-parents rows labels parents start all are = (
  (λ facts. record { begin = facts.0; onward = facts.1; met = λ v d e other. by v d e (label_in parents v) refl (facts.2 v d e other) }),
  (λ cert. (
    cert.begin,
    cert.onward,
    λ v d e other. (
        let m = cert.met v d e other in
        let meets : MeetsAt rows labels m.0 m.2 v = record { start = m.1; price = m.3; edge = m.5; labelled = m.4; target = e ∙ ap Some m.6 } in
        let l = are.least m.0 m.2 v (omega (arith, in-table labels m.0 m.1 m.4, all)) meets in
        ap is_some l.1),
  )),
)
  where
    by : (v d : ℕ) → label_in labels v ≡ Some d → (o : Option ℕ) → label_in parents v ≡ o → IsSome o
        → (u e k p : ℕ) × (label_in labels u ≡ Some e) × (slice_get (row_in rows u) k ≡ Some (v, p)) × (d ≡ e + p)
    by v d e None is some = cc
    by v d e (Some u) is some =
        let m = are.meets v u is in
        (u, m.1.start, m.0, m.1.price, m.1.labelled, m.1.edge, same_Some d (m.1.start + m.1.price) (sym e ∙ m.1.target))
