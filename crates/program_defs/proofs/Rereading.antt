-- Levels, marks and hops stay right when one more vertex is read.
-- Used by Pathing.
use Rattle.std.proofs.Common.{◌≡◌, ℕ, zero, suc, ◌+◌, ◌-◌, ◌<◌, ◌≤◌, List, [], ◌∷◌, ◌++◌, IsTrue, refl, sym, ap, subst, ◌∙◌, Option, ◌⊎◌, inl, inr, arith}
use Rattle.std.proofs.lemmas.Bool.{or_cases, or_left, or_right}
use Rattle.weave_data.specs.Names.{same_name, one_name}
use Rattle.weave_data.specs.declared.name.Name.{Name}
use Rattle.graph_ops.specs.Mentions.{is_among}
use Rattle.graph_ops.specs.Operations.{State}
use Rattle.graph_ops.specs.PlainGraph.{PlainGraph}
use Rattle.graph_ops.proofs.Vertices.{same_name-refl}
use Rattle.program_defs.specs.declared.path_search.Hop.{Hop}
use Rattle.program_defs.specs.declared.path_search.Mark.{Mark}
use Rattle.program_defs.specs.declared.passing.Passing.{Passing}
use Rattle.program_defs.specs.Ranks.{IsRankedAt}
use Rattle.program_defs.specs.Searching.{SearchState, IsWithinLevel, levels_read}
use Rattle.program_defs.specs.Visits.{levels_to, names_through, through_level, graph_read}
use Rattle.program_defs.specs.LeastWalks.{IsIn, HasHops, HasMarked, ranks, hops_from}
use Rattle.program_defs.specs.Walks.{targets}
use Rattle.program_defs.proofs.Levels.{through-more}
use Rattle.program_defs.proofs.Members.{among-left, among-right, among-cases}
use Rattle.program_defs.proofs.Seeing.{levels-same, read-agrees}
use Rattle.program_defs.proofs.Walked.{in-left, in-right, in-cases, level-through}

-- The levels before

before-more : (graph : PlainGraph) (pass : Passing) (from : Name) (k n : ℕ) → k ≤ n → (w : Name) → IsTrue (is_among (levels_to k graph pass from).before w) → IsTrue (is_among (levels_to n graph pass from).before w)
before-more graph pass from zero n le w h = cc
before-more graph pass from (suc k) zero le w h = absurd (omega (arith, le))
before-more graph pass from (suc k) (suc n) le w h =
    let e : n - k + k ≡ n = omega (arith, le) in
    subst (λ m. IsTrue (is_among (through_level m graph pass from) w)) e (through-more graph pass from (n - k) k w h)

level-before : (graph : PlainGraph) (pass : Passing) (from : Name) (k n : ℕ) → k < n → (w : Name) → IsTrue (is_among (levels_to k graph pass from).level w) → IsTrue (is_among (levels_to n graph pass from).before w)
level-before graph pass from k zero less w h = absurd (omega (arith, less))
level-before graph pass from k (suc n) less w h = level-through graph pass from k n (omega (arith, less)) w h

-- Ranks over another graph that has the same levels, and the same states in this one

ranked-over : (g h : PlainGraph) (pass : Passing) (from : Name) (k : ℕ) (parent : Name → Name) (rank : Name → ℕ) → levels_to k g pass from ≡ levels_to k h pass from → levels_to (suc k) g pass from ≡ levels_to (suc k) h pass from
    → ((u : Name) → IsTrue (is_among (levels_to k g pass from).level u) → g u ≡ h u) → IsRankedAt k g pass from parent rank → IsRankedAt k h pass from parent rank
ranked-over g h pass from k parent rank here next agree at =
    record {
      before = λ v i. forth (parent v) (at.before v (back-next v i));
      edge = λ v i. subst (λ s. IsTrue (is_among (targets pass s) v)) (agree (parent v) (at.before v (back-next v i))) (at.edge v (back-next v i));
      first = λ v u i j e. at.first v u (back-next v i) (back u j) (subst (λ s. IsTrue (is_among (targets pass s) v)) (sym (agree u (back u j))) e);
      order = λ v w i j le. at.order v w (back-next v i) (back-next w j) le;
    }
  where
    back : (u : Name) → IsTrue (is_among (levels_to k h pass from).level u) → IsTrue (is_among (levels_to k g pass from).level u)
    back u i = subst (λ levels. IsTrue (is_among levels.level u)) (sym here) i

    forth : (u : Name) → IsTrue (is_among (levels_to k g pass from).level u) → IsTrue (is_among (levels_to k h pass from).level u)
    forth u i = subst (λ levels. IsTrue (is_among levels.level u)) here i

    back-next : (v : Name) → IsTrue (is_among (levels_to (suc k) h pass from).level v) → IsTrue (is_among (levels_to (suc k) g pass from).level v)
    back-next v i = subst (λ levels. IsTrue (is_among levels.level v)) (sym next) i

-- Hops from one vertex

abbrev hop-at : Name → ℕ → Name → Hop
hop-at v rank t = record { rank = rank; target = t; parent = v }

hop-of : (v : Name) (rank : ℕ) (names : List Name) (hop : Hop) → IsIn (hops_from v rank names) hop → (t : Name) × IsTrue (is_among names t) × (record { rank = rank; target = t; parent = v } ≡ hop)
hop-of v rank [] hop i = absurd i
hop-of v rank (t ∷ names) hop (inl same) = (t, or_left _ _ (same_name-refl t), same)
hop-of v rank (t ∷ names) hop (inr i) = let found = hop-of v rank names hop i in (found.0, or_right (same_name t found.0) _ found.1, found.2)

hop-to : (v : Name) (rank : ℕ) (names : List Name) (t : Name) → IsTrue (is_among names t) → IsIn (hops_from v rank names) (record { rank = rank; target = t; parent = v })
hop-to v rank [] t k = absurd (cc)
hop-to v rank (x ∷ names) t k =
    elim (or_cases (same_name x t) _ k) [
      | inl same ↦ inl (ap (hop-at v rank) (one_name x t same))
      | inr more ↦ inr (hop-to v rank names t more)
    ]

module _ (search : SearchState) (reads : List (Name × State)) (n : ℕ) (done : List Name) (within : IsWithinLevel search reads n done) (v : Name) (more : List Name) (rest : search.rest ≡ v ∷ more) (state : State) where
  abbrev was : PlainGraph
  was = graph_read reads

  abbrev now : PlainGraph
  now = graph_read ((v, state) ∷ reads)

  agrees : (w : Name) → IsTrue (is_among ((levels_read reads search.aim n).before ++ done) w) → was w ≡ now w
  agrees w k = read-agrees search reads n done within v more rest state w (within.read w ∙ k)

  here : now v ≡ state
  here = rw (same_name-refl v) refl

  -- when the next vertex of level n is read, the levels 0 to n stay as they were
  pub levels-kept : (k : ℕ) → k ≤ n → levels_to k was search.aim.pass search.aim.from ≡ levels_to k now search.aim.pass search.aim.from
  levels-kept k le = levels-same was now search.aim.pass search.aim.from k (λ w i. agrees w (among-left (levels_read reads search.aim n).before done w (before-more was search.aim.pass search.aim.from k n le w i)))

  -- and marks that mark and rank the vertices of these levels still do so
  pub marked-kept : (marks : Name → Option Mark) → HasMarked marks was search.aim.pass search.aim.from n → HasMarked marks now search.aim.pass search.aim.from n
  marked-kept marks h = record {
    marked = λ w. h.marked w ∙ ap (λ levels. is_among (names_through levels) w) (levels-kept n (omega arith));
    ranked = λ k less. ranked-over was now search.aim.pass search.aim.from k _ _ (levels-kept k (omega (arith, less))) (levels-kept (suc k) (omega (arith, less)))
        (λ u i. agrees u (among-left (levels_read reads search.aim n).before done u (level-before was search.aim.pass search.aim.from k n less u i))) (h.ranked k less);
  }

  -- the hops with those from the vertex read are the passing edges of all that was read of the level
  pub hops-more : (marks : Name → Option Mark) (hops : List Hop) → HasHops marks was search.aim.pass done hops → HasHops marks now search.aim.pass (done ++ v ∷ []) (hops ++ hops_from v (ranks marks v) (targets search.aim.pass state))
  hops-more marks hops h = record {
    parent = λ hop i. elim (in-cases hops added hop i) [
      | inl old ↦ among-left done (v ∷ []) hop.parent (h.parent hop old)
      | inr fresh ↦ among-right done (v ∷ []) hop.parent (subst (λ u. IsTrue (is_among (v ∷ []) u)) (ap (λ (x : Hop). x.parent) (hop-of v (ranks marks v) names hop fresh).2) (or_left _ _ (same_name-refl v)))
    ];
    edge = λ hop i. elim (in-cases hops added hop i) [
      | inl old ↦ subst (λ s. IsTrue (is_among (targets search.aim.pass s) hop.target)) (agrees hop.parent (among-right (levels_read reads search.aim n).before done hop.parent (h.parent hop old))) (h.edge hop old)
      | inr fresh ↦ (let found = hop-of v (ranks marks v) names hop fresh in
          subst (λ (x : Hop). IsTrue (is_among (targets search.aim.pass (now x.parent)) x.target)) found.2 (subst (λ s. IsTrue (is_among (targets search.aim.pass s) found.0)) (sym here) found.1))
    ];
    rank = λ hop i. elim (in-cases hops added hop i) [
      | inl old ↦ h.rank hop old
      | inr fresh ↦ (let same = (hop-of v (ranks marks v) names hop fresh).2 in sym (ap (λ (x : Hop). x.rank) same) ∙ ap (ranks marks) (ap (λ (x : Hop). x.parent) same))
    ];
    all = λ u w i e. elim (among-cases done (v ∷ []) u i) [
      | inl old ↦ in-left hops added _ (h.all u w old (subst (λ s. IsTrue (is_among (targets search.aim.pass s) w)) (sym (agrees u (among-right (levels_read reads search.aim n).before done u old))) e))
      | inr last ↦ in-right hops added _ (of-last u w e (or_cases (same_name v u) _ last))
    ];
  }
    where
      names : List Name
      names = targets search.aim.pass state

      added : List Hop
      added = hops_from v (ranks marks v) (targets search.aim.pass state)

      of-last : (u w : Name) → IsTrue (is_among (targets search.aim.pass (now u)) w) → IsTrue (same_name v u) ⊎ IsTrue (is_among [] u) → IsIn (hops_from v (ranks marks v) (targets search.aim.pass state)) (record { rank = ranks marks u; target = w; parent = u })
      of-last u w e (inr none) = absurd (cc)
      of-last u w e (inl same) =
          let is : v ≡ u = one_name v u same in
          let edge : IsTrue (is_among (targets search.aim.pass state) w) = subst (λ s. IsTrue (is_among (targets search.aim.pass s) w)) (ap now (sym is) ∙ here) e in
          subst (λ x. IsIn (hops_from v (ranks marks v) (targets search.aim.pass state)) (record { rank = ranks marks x; target = w; parent = x })) is (hop-to v (ranks marks v) (targets search.aim.pass state) w edge)
