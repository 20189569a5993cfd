-- The tests that compute pass exactly if the facts hold.
-- Used by CertificateLaw.
use Rattle.std.proofs.Common.{◌≡◌, ◌≤◌, ◌+◌, ℕ, Bool, true, false, not, ◌&&◌, ◌||◌, refl, sym, ap, subst, ◌∙◌, List, [], ◌∷◌, reverse, Option, Some, None, IsTrue, inl, inr, if◌then◌else◌, is_some}
use Rattle.std.specs.Option.{option_map}
use Rattle.std.specs.Ordering.{is_le, is_eq, ordering_reverse}
use Rattle.std.specs.declared.cmp.Ordering.{Ordering}
use Rattle.std.specs.declared.cmp.Ordering.TheVariants.{Less, Equal, Greater}
use Rattle.std.proofs.lemmas.Bool.{and_parts, and_from, both_ways, or_cases, or_left, or_right, leb-true, le-leb, eqb-true, eq-eqb, cases_Bool, not-true, not_from_false}
use Rattle.std.proofs.lemmas.Cmp.{nat_list_cmp_total}
use Rattle.std.proofs.lemmas.List.{reverse-reverse}
use Rattle.weave_data.specs.Names.{name_cmp, same_name, one_name}
use Rattle.weave_data.specs.declared.name.Name.{Name}
use Rattle.graph_ops.specs.PlainGraph.{PlainGraph}
use Rattle.graph_ops.proofs.Vertices.{same_name-refl}
use Rattle.program_defs.specs.declared.program.Bound.{Bound}
use Rattle.program_defs.specs.Certificate.{is_number_there, is_number_within, is_meeting, parent_of, goes_onward, goes_back, goes_back_from, has_walk_back, starts_at, passes_tests}
use Rattle.program_defs.specs.PriceTests.{Meets, IsLeastMeeting, GoesBack, HasWalkBack, MeetsTests}
use Rattle.program_defs.specs.Labels.{listed_names}
use Rattle.program_defs.specs.PricedAnswer.{bound_at}
use Rattle.program_defs.specs.Prices.{priced_edges, HasEdge}
use Rattle.program_defs.specs.Rising.{is_rising}
use Rattle.program_defs.specs.Walks.{is_value}
use Rattle.program_defs.proofs.Certified.{listed-some}
use Rattle.program_defs.proofs.BoundLists.{HasBound, has-of-at, at-of-has, each-bound, all-bounds, each-edge, all-edges, some-edge, any-edge, found-first, found-some}

number-is : (o : Option ℕ) (n : ℕ) → is_number_there o n ≡ true → o ≡ Some n
number-is None n e = cc
number-is (Some m) n e = ap Some (eqb-true m n e)

is-number : (o : Option ℕ) (n : ℕ) → o ≡ Some n → is_number_there o n ≡ true
is-number o n e = rw e (eq-eqb n n refl)

most-is : (o : Option ℕ) (n : ℕ) → is_number_within o n ≡ true → (m : ℕ) × (o ≡ Some m) × (m ≤ n)
most-is None n e = cc
most-is (Some m) n e = (m, refl, leb-true m n e)

is-most : (o : Option ℕ) (m n : ℕ) → o ≡ Some m → m ≤ n → is_number_within o n ≡ true
is-most o m n e le = rw e (le-leb m n le)

name-is : (o : Option Name) (u : Name) → is_value o u ≡ true → o ≡ Some u
name-is None u e = cc
name-is (Some w) u e = ap Some (one_name w u e)

none-is : (o : Option ℕ) → not (is_some o) ≡ true → o ≡ None
none-is None e = refl
none-is (Some n) e = cc

le-antisymm : (u w : Name) → IsTrue (is_le (name_cmp u w)) → IsTrue (is_le (name_cmp w u)) → u ≡ w
le-antisymm u w a b = at (name_cmp u w) (name_cmp w u) refl refl a b
  where
    at : (o p : Ordering) → name_cmp u w ≡ o → name_cmp w u ≡ p → IsTrue (is_le o) → IsTrue (is_le p) → u ≡ w
    at Equal p e f g h = one_name u w (ap is_eq e)
    at Less Equal e f g h = sym (one_name w u (ap is_eq f))
    at Less Less e f g h = let r = nat_list_cmp_total.antisymm u w in absurd (less-both (sym e ∙ r) f)
      where
        less-both : Less ≡ ordering_reverse (name_cmp w u) → name_cmp w u ≡ Less → ⊥
        less-both x y = let z : Less ≡ Greater = x ∙ ap ordering_reverse y in cc
    at Less Greater e f g h = cc
    at Greater p e f g h = cc

module _ (graph : PlainGraph) (key from : Name) (bounds : List Bound) (rising : is_rising (listed_names bounds) ≡ true) where
  -- a listed vertex that comes before
  before-meets : (v u : Name) (d : ℕ) → HasBound bounds u d → is_meeting graph key from bounds v (record { vertex = u; price = d }) ≡ true → Meets graph key from bounds u v
  before-meets v u d h e =
      let s = some-edge (λ hop. same_name hop.0 v && is_number_there (bound_at bounds v) (d + hop.1)) (priced_edges key (graph u)) e in
      let parts = and_parts _ _ s.3 in
      record {
        start = d;
        price = s.1;
        end = d + s.1;
        listed = at-of-has bounds rising u d h;
        edge = subst (λ w. HasEdge (priced_edges key (graph u)) w s.1) (one_name s.0 v parts.0) s.2;
        target = number-is _ _ parts.1;
        sum = refl;
      }

  meets-before : (v u : Name) (m : Meets graph key from bounds u v) → is_meeting graph key from bounds v (record { vertex = u; price = m.start }) ≡ true
  meets-before v u m =
      any-edge (λ hop. same_name hop.0 v && is_number_there (bound_at bounds v) (m.start + hop.1)) (priced_edges key (graph u)) v m.price m.edge
      (and_from _ _ (same_name-refl v) (is-number _ _ (m.target ∙ ap Some m.sum)))

  vertex-of-some : (o : Option Bound) (u : Name) → option_map (λ (bound : Bound). bound.vertex) o ≡ Some u → (b : Bound) × (o ≡ Some b) × (b.vertex ≡ u)
  vertex-of-some None u e = cc
  vertex-of-some (Some b) u e = (b, refl, cc)

  -- the first listed vertex before another one is the least that meets its bound
  parent-is-least : (v u : Name) → parent_of graph key from bounds v ≡ Some u → IsLeastMeeting graph key from bounds u v
  parent-is-least v u e =
      let b = vertex-of-some _ u e in
      let f = found-first (is_meeting graph key from bounds v) bounds b.0 rising b.1 in
      record {
        meets = subst (λ w. Meets graph key from bounds w v) b.2 (before-meets v b.0.vertex b.0.price f.0 f.1);
        least = λ other m. subst (λ w. IsTrue (is_le (name_cmp w other))) b.2
            (f.2 other m.start (has-of-at bounds other m.start m.listed) (meets-before v other m));
      }

  has-parent : (v u : Name) → Meets graph key from bounds u v → (w : Name) × (parent_of graph key from bounds v ≡ Some w)
  has-parent v u m =
      let b = found-some (is_meeting graph key from bounds v) bounds u m.start (has-of-at bounds u m.start m.listed) (meets-before v u m) in
      (b.0.vertex, ap (option_map (λ (bound : Bound). bound.vertex)) b.1)

  least-is-parent : (v u : Name) → IsLeastMeeting graph key from bounds u v → parent_of graph key from bounds v ≡ Some u
  least-is-parent v u l =
      let p = has-parent v u l.meets in
      let q = parent-is-least v p.0 p.1 in
      p.1 ∙ ap Some (le-antisymm p.0 u (q.least u l.meets) (l.least p.0 q.meets))

  back-is : (v : Name) (before : List Name) → goes_back graph key from bounds v before ≡ true → GoesBack graph key from bounds v before
  back-is v [] e = one_name from v e
  back-is v (u ∷ before) e =
      let parts = and_parts _ _ e in
      (parent-is-least v u (name-is _ u parts.0), back-is u before parts.1)

  is-back : (v : Name) (before : List Name) → GoesBack graph key from bounds v before → goes_back graph key from bounds v before ≡ true
  is-back v [] h = subst (λ w. same_name from w ≡ true) h (same_name-refl from)
  is-back v (u ∷ before) h =
      and_from _ _ (rw (least-is-parent v u h.0) (same_name-refl u)) (is-back u before h.1)

  walk-is : (to : Name) (walk : Option (List Name)) (total : ℕ) → has_walk_back graph key from bounds to walk total ≡ true → HasWalkBack graph key from bounds to walk total
  walk-is to None total e = let parts = and_parts _ _ e in (none-is _ parts.0, eqb-true total 0 parts.1)
  walk-is to (Some walk) total e = at (reverse walk) refl parts.1
    where
      parts : (is_number_there (bound_at bounds to) total ≡ true) × (goes_back_from graph key from bounds to (reverse walk) ≡ true)
      parts = and_parts _ _ e

      at : (turned : List Name) → reverse walk ≡ turned → goes_back_from graph key from bounds to turned ≡ true → HasWalkBack graph key from bounds to (Some walk) total
      at [] r f = cc
      at (v ∷ before) r f =
          let g = and_parts _ _ f in
          let headed : reverse walk ≡ to ∷ before = r ∙ ap (λ w. w ∷ before) (one_name v to g.0) in
          (before, number-is _ _ parts.0, sym (reverse-reverse walk) ∙ ap reverse headed, back-is to before g.1)

  is-walk : (to : Name) (walk : Option (List Name)) (total : ℕ) → HasWalkBack graph key from bounds to walk total → has_walk_back graph key from bounds to walk total ≡ true
  is-walk to None total h = rw h.0 (eq-eqb total 0 h.1)
  is-walk to (Some walk) total h =
      and_from _ _ (is-number _ _ h.1)
      (subst (λ xs. goes_back_from graph key from bounds to xs ≡ true) (sym (reverse-reverse (to ∷ h.0)) ∙ ap reverse (sym h.2)) (and_from _ _ (same_name-refl to) (is-back to h.0 h.3)))

start-is : (there : Bool) (o : Option ℕ) → starts_at there o ≡ true → o ≡ (if there then Some 0 else None)
start-is true o e = number-is o 0 e
start-is false o e = none-is o e

is-start : (there : Bool) (o : Option ℕ) → o ≡ (if there then Some 0 else None) → starts_at there o ≡ true
is-start true o e = is-number o 0 e
is-start false o e = rw e refl

-- what passes the tests that compute has the facts
pub passed-meets : (graph : PlainGraph) (key from : Name) (bounds : List Bound) (to : Name) (walk : Option (List Name)) (total : ℕ)
    → passes_tests graph key from bounds to walk total ≡ true → MeetsTests graph key from bounds to walk total
passed-meets graph key from bounds to walk total e =
    let a = and_parts _ _ e in
    let b = and_parts _ _ a.1 in
    let c = and_parts _ _ b.1 in
    let d = and_parts _ _ c.1 in
    let f = and_parts _ _ c.0 in
    record {
      certified = record {
        rising = a.0;
        present = λ v l. let x = listed-some _ l in each-bound (λ (bound : Bound). is_some (graph bound.vertex)) bounds b.0 v x.0 (has-of-at bounds v x.0 x.1);
        start = start-is _ _ f.0;
        onward = λ u v start price listed edge there.
            let on = each-edge (λ hop. not (is_some (graph hop.0)) || is_number_within (bound_at bounds hop.0) (start + hop.1)) (priced_edges key (graph u))
            (each-bound (goes_onward graph key from bounds) bounds f.1 u start (has-of-at bounds u start listed)) v price edge in
            elim (or_cases _ _ on) [
              | inl absent ↦ absurd (both_ways _ (not-true _ absent) there)
              | inr most ↦ most-is _ _ most
            ];
        met = λ v l other.
            let x = listed-some _ l in
            let m = each-bound (λ (bound : Bound). same_name from bound.vertex || is_some (parent_of graph key from bounds bound.vertex)) bounds d.0 v x.0 (has-of-at bounds v x.0 x.1) in
            elim (or_cases _ _ m) [
              | inl same ↦ absurd (both_ways _ other same)
              | inr has ↦ let p = parent-some _ has in (p.0, (parent-is-least graph key from bounds a.0 v p.0 p.1).meets)
            ];
      };
      led = walk-is graph key from bounds a.0 to walk total d.1;
    }
  where
    parent-some : (o : Option Name) → is_some o ≡ true → (u : Name) × (o ≡ Some u)
    parent-some None h = cc
    parent-some (Some u) h = (u, refl)

-- and the other way round
pub meets-passed : (graph : PlainGraph) (key from : Name) (bounds : List Bound) (to : Name) (walk : Option (List Name)) (total : ℕ)
    → MeetsTests graph key from bounds to walk total → passes_tests graph key from bounds to walk total ≡ true
meets-passed graph key from bounds to walk total tests =
    and_from _ _ tests.certified.rising
    (and_from _ _ (all-bounds (λ (bound : Bound). is_some (graph bound.vertex)) bounds (λ v d h. tests.certified.present v (listed v d h)))
    (and_from _ _ (and_from _ _ (is-start _ _ tests.certified.start) (all-bounds (goes_onward graph key from bounds) bounds onward))
    (and_from _ _ (all-bounds (λ (bound : Bound). same_name from bound.vertex || is_some (parent_of graph key from bounds bound.vertex)) bounds met)
    (is-walk graph key from bounds tests.certified.rising to walk total tests.led))))
  where
    listed : (v : Name) (d : ℕ) → HasBound bounds v d → IsTrue (is_some (bound_at bounds v))
    listed v d h = ap is_some (at-of-has bounds tests.certified.rising v d h)

    onward : (v : Name) (d : ℕ) → HasBound bounds v d → goes_onward graph key from bounds (record { vertex = v; price = d }) ≡ true
    onward v d h = all-edges (λ hop. not (is_some (graph hop.0)) || is_number_within (bound_at bounds hop.0) (d + hop.1)) (priced_edges key (graph v)) each
      where
        each : (w : Name) (p : ℕ) → HasEdge (priced_edges key (graph v)) w p → (not (is_some (graph w)) || is_number_within (bound_at bounds w) (d + p)) ≡ true
        each w p edge =
            elim (cases_Bool (is_some (graph w))) [
              | inl there ↦ let on = tests.certified.onward v w d p (at-of-has bounds tests.certified.rising v d h) edge there in or_right _ _ (is-most _ on.0 (d + p) on.1 on.2)
              | inr absent ↦ or_left _ _ (not_from_false _ absent)
            ]

    met : (v : Name) (d : ℕ) → HasBound bounds v d → (same_name from v || is_some (parent_of graph key from bounds v)) ≡ true
    met v d h =
        elim (cases_Bool (same_name from v)) [
          | inl same ↦ or_left _ _ same
          | inr other ↦ let m = tests.certified.met v (listed v d h) other in let p = has-parent graph key from bounds tests.certified.rising v m.0 m.1 in or_right _ _ (ap is_some p.1)
        ]
