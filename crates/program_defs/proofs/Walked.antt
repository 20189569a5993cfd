-- In a search by levels: once the sorted hops of a level are marked, the next level is marked and ranked too.
-- Used by Pathing and Rereading.
use Rattle.std.proofs.Common.{◌≡◌, ℕ, suc, ◌+◌, ◌-◌, ◌<◌, ◌≤◌, Bool, true, false, List, [], ◌∷◌, ◌++◌, IsTrue, refl, sym, ap, subst, ◌∙◌, Option, Some, None, ◌⊎◌, inl, inr, arith}
use Rattle.std.specs.Prelude.{is_some}
use Rattle.std.specs.Cmp.{both_ways as same_test}
use Rattle.std.specs.List.{AllByRecursion}
use Rattle.std.specs.List.Sorted.{IsPermutation}
use Rattle.std.proofs.ByRecursion.{all_shuffled}
use Rattle.std.proofs.lemmas.Bool.{cases_lt}
use Rattle.std.proofs.lemmas.List.Sorted.{IsPermutation-sym}
use Rattle.weave_data.specs.declared.name.Name.{Name}
use Rattle.graph_ops.specs.Mentions.{is_among}
use Rattle.graph_ops.specs.PlainGraph.{PlainGraph}
use Rattle.program_defs.specs.declared.path_search.Hop.{Hop}
use Rattle.program_defs.specs.declared.path_search.Mark.{Mark}
use Rattle.program_defs.specs.declared.passing.Passing.{Passing}
use Rattle.program_defs.specs.Ranks.{ComesNoLater, IsRankedAt}
use Rattle.program_defs.specs.Visits.{levels_to, through_level}
use Rattle.program_defs.specs.LeastWalks.{IsIn, HopsRise, HasHops, HasMarked, parent_or, rank_or, parents, ranks, marks_after}
use Rattle.program_defs.specs.Walks.{targets}
use Rattle.program_defs.proofs.Levels.{targets-through, through-more, new-in-level, source-before}
use Rattle.program_defs.proofs.Marking.{marked-stays, marked-has, origin, first-of, in-order}
use Rattle.program_defs.proofs.Members.{among-left, among-right, among-cases}

-- Members of a list of hops

each-in : (xs ys : List Hop) → ((hop : Hop) → IsIn xs hop → IsIn ys hop) → AllByRecursion (IsIn ys) xs
each-in [] ys all = tt
each-in (x ∷ xs) ys all = (all x (inl refl), each-in xs ys (λ hop i. all hop (inr i)))

all-in : (xs ys : List Hop) → AllByRecursion (IsIn ys) xs → (hop : Hop) → IsIn xs hop → IsIn ys hop
all-in [] ys all hop i = absurd i
all-in (x ∷ xs) ys all hop (inl same) = subst (IsIn ys) same all.0
all-in (x ∷ xs) ys all hop (inr i) = all-in xs ys all.1 hop i

into-moved : (xs ys : List Hop) → IsPermutation xs ys → (hop : Hop) → IsIn xs hop → IsIn ys hop
into-moved xs ys moved = all-in xs ys (all_shuffled (IsIn ys) ys xs (IsPermutation-sym xs ys moved) (each-in ys ys (λ hop i. i)))

out-of-moved : (xs ys : List Hop) → IsPermutation xs ys → (hop : Hop) → IsIn ys hop → IsIn xs hop
out-of-moved xs ys moved = all-in ys xs (all_shuffled (IsIn xs) xs ys moved (each-in xs xs (λ hop i. i)))

-- a hop of the first of two lists is one of both joined
pub in-left : (xs ys : List Hop) (hop : Hop) → IsIn xs hop → IsIn (xs ++ ys) hop
in-left [] ys hop i = absurd i
in-left (x ∷ xs) ys hop (inl same) = inl same
in-left (x ∷ xs) ys hop (inr i) = inr (in-left xs ys hop i)

-- and so is a hop of the second
pub in-right : (xs ys : List Hop) (hop : Hop) → IsIn ys hop → IsIn (xs ++ ys) hop
in-right [] ys hop i = i
in-right (x ∷ xs) ys hop i = inr (in-right xs ys hop i)

-- a hop of two joined lists is one of the first or of the second
pub in-cases : (xs ys : List Hop) (hop : Hop) → IsIn (xs ++ ys) hop → IsIn xs hop ⊎ IsIn ys hop
in-cases [] ys hop i = inr i
in-cases (x ∷ xs) ys hop (inl same) = inl (inl same)
in-cases (x ∷ xs) ys hop (inr i) = elim (in-cases xs ys hop i) [ inl l ↦ inl (inr l) | inr r ↦ inr r ]

some-mark : (o : Option Mark) → is_some o ≡ true → (mark : Mark) × (o ≡ Some mark)
some-mark None e = absurd (cc)
some-mark (Some mark) e = (mark, refl)

-- The same ranks by other marks

module _ (graph : PlainGraph) (pass : Passing) (from : Name) where
  -- level k is in the levels 0 to n
  pub level-through : (k n : ℕ) → k ≤ n → (v : Name) → IsTrue (is_among (levels_to k graph pass from).level v) → IsTrue (is_among (through_level n graph pass from) v)
  level-through k n le v h =
      let e : n - k + k ≡ n = omega (arith, le) in
      subst (λ m. IsTrue (is_among (through_level m graph pass from) v)) e (through-more graph pass from (n - k) k v (among-right (levels_to k graph pass from).before _ v h))

  module _ (marks marks' : Name → Option Mark) (k : ℕ) (same : (v : Name) → IsTrue (is_among (through_level (suc k) graph pass from) v) → marks' v ≡ marks v) (at : IsRankedAt k graph pass from (parents marks) (ranks marks)) where
    parent-same : (v : Name) → IsTrue (is_among (levels_to (suc k) graph pass from).level v) → parents marks' v ≡ parents marks v
    parent-same v h = ap (parent_or v) (same v (level-through (suc k) (suc k) (omega arith) v h))

    rank-same : (u : Name) → IsTrue (is_among (levels_to k graph pass from).level u) → ranks marks' u ≡ ranks marks u
    rank-same u h = ap rank_or (same u (level-through k (suc k) (omega arith) u h))

    parent-rank-same : (v : Name) → IsTrue (is_among (levels_to (suc k) graph pass from).level v) → ranks marks' (parents marks' v) ≡ ranks marks (parents marks v)
    parent-rank-same v h = ap (ranks marks') (parent-same v h) ∙ rank-same (parents marks v) (at.before v h)

    rank-next-same : (v : Name) → IsTrue (is_among (levels_to (suc k) graph pass from).level v) → ranks marks' v ≡ ranks marks v
    rank-next-same v h = ap rank_or (same v (level-through (suc k) (suc k) (omega arith) v h))

    ranked-same : IsRankedAt k graph pass from (parents marks') (ranks marks')
    ranked-same = record {
      before = λ v h. subst (λ p. IsTrue (is_among (levels_to k graph pass from).level p)) (sym (parent-same v h)) (at.before v h);
      edge = λ v h. subst (λ p. IsTrue (is_among (targets pass (graph p)) v)) (sym (parent-same v h)) (at.edge v h);
      first = λ v u h g e. (let one = parent-rank-same v h in let two = rank-same u g in let le = at.first v u h g e in omega (arith, one, two, le));
      order = λ v w h g le. (
          let one = rank-next-same v h in
          let two = rank-next-same w g in
          let before : ranks marks v ≤ ranks marks w = omega (arith, one, two, le) in
          subst (λ r. ComesNoLater r (ranks marks' (parents marks' w)) v w) (sym (parent-rank-same v h)) (subst (λ r. ComesNoLater (ranks marks (parents marks v)) r v w) (sym (parent-rank-same w g)) (at.order v w h g before)));
    }

  -- The marks of one more level

  module _ (n : ℕ) (marks : Name → Option Mark) (was : HasMarked marks graph pass from n) (hops sorted : List Hop) (has : HasHops marks graph pass (levels_to n graph pass from).level hops) (moved : IsPermutation hops sorted) (rising : HopsRise sorted) (count : ℕ) where
    abbrev now : Name → Option Mark
    now v = marks_after marks count sorted v

    stays : (v : Name) → IsTrue (is_among (through_level n graph pass from) v) → now v ≡ marks v
    stays v h = marked-stays sorted marks count v (was.marked v ∙ h)

    new : (v : Name) → IsTrue (is_among (levels_to (suc n) graph pass from).level v) → is_some (marks v) ≡ false
    new v h = was.marked v ∙ new-in-level graph pass from (suc n) v h

    have-ranks : (hop : Hop) → IsIn sorted hop → hop.rank ≡ ranks marks hop.parent
    have-ranks hop i = has.rank hop (out-of-moved hops sorted moved hop i)

    marked-now : (v : Name) → IsTrue (is_among (levels_to (suc n) graph pass from).level v) → (mark : Mark) × (now v ≡ Some mark)
    marked-now v h =
        let source = source-before graph pass from n v h in
        some-mark (now v) (marked-has sorted marks count (record { rank = ranks marks source.0; target = v; parent = source.0 }) (into-moved hops sorted moved _ (has.all source.0 v source.1.among source.1.edge)))

    -- the parent that the mark of a new name has
    pub record IsParent (v : Name) (mark : Mark) : Type 0 where
      pub there : IsTrue (is_among (levels_to n graph pass from).level mark.parent)
      pub edge : IsTrue (is_among (targets pass (graph mark.parent)) v)

    parent-is : (v : Name) (mark : Mark) → is_some (marks v) ≡ false → now v ≡ Some mark → IsParent v mark
    parent-is v mark fresh is =
        let o = origin sorted marks count v mark fresh is in
        let i = out-of-moved hops sorted moved o.hop o.among in
        record {
          there = subst (λ p. IsTrue (is_among (levels_to n graph pass from).level p)) o.parent (has.parent o.hop i);
          edge = subst (λ p. IsTrue (is_among (targets pass (graph p)) v)) o.parent (subst (λ t. IsTrue (is_among (targets pass (graph o.hop.parent)) t)) o.target (has.edge o.hop i));
        }

    rank-stays : (u : Name) → IsTrue (is_among (levels_to n graph pass from).level u) → ranks now u ≡ ranks marks u
    rank-stays u h = ap rank_or (stays u (level-through n n (omega arith) u h))

    module _ (v : Name) (h : IsTrue (is_among (levels_to (suc n) graph pass from).level v)) where
      abbrev mark : Mark
      mark = (marked-now v h).0

      parent-now : parents now v ≡ mark.parent
      parent-now = ap (parent_or v) (marked-now v h).1

      is-parent : IsParent v mark
      is-parent = parent-is v mark (new v h) (marked-now v h).1

      parent-rank : ranks now (parents now v) ≡ ranks marks mark.parent
      parent-rank = ap (ranks now) parent-now ∙ rank-stays mark.parent is-parent.there

      rank-now : ranks now v ≡ mark.rank
      rank-now = ap rank_or (marked-now v h).1

    ranked-now : IsRankedAt n graph pass from (parents now) (ranks now)
    ranked-now = record {
      before = λ v h. subst (λ p. IsTrue (is_among (levels_to n graph pass from).level p)) (sym (parent-now v h)) (is-parent v h).there;
      edge = λ v h. subst (λ p. IsTrue (is_among (targets pass (graph p)) v)) (sym (parent-now v h)) (is-parent v h).edge;
      first = λ v u h g e. (
          let le : ranks marks (mark v h).parent ≤ ranks marks u = first-of (ranks marks) sorted marks count v (mark v h) have-ranks rising (new v h) (marked-now v h).1 (record { rank = ranks marks u; target = v; parent = u }) (into-moved hops sorted moved _ (has.all u v g e)) refl in
          let one = parent-rank v h in
          let two = rank-stays u g in
          omega (arith, le, one, two));
      order = λ v w h g le. (
          let one = rank-now v h in
          let two = rank-now w g in
          let before : (mark v h).rank ≤ (mark w g).rank = omega (arith, one, two, le) in
          subst (λ r. ComesNoLater r (ranks now (parents now w)) v w) (sym (parent-rank v h))
          (subst (λ r. ComesNoLater (ranks marks (mark v h).parent) r v w) (sym (parent-rank w g))
          (in-order (ranks marks) sorted marks count v w (mark v h) (mark w g) have-ranks rising (new v h) (new w g) (marked-now v h).1 (marked-now w g).1 before)));
    }

    marked-there : (v : Name) → is_some (now v) ≡ true → IsTrue (is_among (through_level (suc n) graph pass from) v)
    marked-there v some = at (is_some (marks v)) refl
      where
        at : (b : Bool) → is_some (marks v) ≡ b → IsTrue (is_among (through_level (suc n) graph pass from) v)
        at true e = among-left (through_level n graph pass from) _ v (sym (was.marked v) ∙ e)
        at false e =
            let found = some-mark (now v) some in
            let p = parent-is v found.0 e found.1 in
            targets-through graph pass from n found.0.parent v (level-through n n (omega arith) found.0.parent p.there) p.edge

    there-marked : (v : Name) → IsTrue (is_among (through_level (suc n) graph pass from) v) → is_some (now v) ≡ true
    there-marked v h =
        elim (among-cases (through_level n graph pass from) (levels_to (suc n) graph pass from).level v h) [
          | inl earlier ↦ ap is_some (stays v earlier) ∙ was.marked v ∙ earlier
          | inr here ↦ ap is_some (marked-now v here).1
        ]

    -- when the sorted hops of level n are marked too, the vertices of the levels 0 to n + 1 are marked and ranked
    pub level-marked : HasMarked now graph pass from (suc n)
    level-marked = record {
      marked = λ v. same_test _ _ (marked-there v) (there-marked v);
      ranked = λ k less. elim (cases_lt k n) [
        | inl earlier ↦ ranked-same marks now k (λ v h. stays v (through-to k earlier v h)) (was.ranked k earlier)
        | inr later ↦ (let same : n ≡ k = omega (arith, less, later) in subst (λ m. IsRankedAt m graph pass from (parents now) (ranks now)) same ranked-now)
      ];
    }
      where
        through-to : (k : ℕ) → k < n → (v : Name) → IsTrue (is_among (through_level (suc k) graph pass from) v) → IsTrue (is_among (through_level n graph pass from) v)
        through-to k less v h = let e : n - suc k + suc k ≡ n = omega (arith, less) in subst (λ m. IsTrue (is_among (through_level m graph pass from) v)) e (through-more graph pass from (n - suc k) (suc k) v h)
