-- The list over parents is the least walk: the least list to a vertex goes over its source of least rank.
-- Used by Backs and Pathing.
use Rattle.std.proofs.Common.{append-nil, append_assoc, ◌≡◌, ℕ, zero, suc, ◌+◌, ◌-◌, ◌<◌, ◌≤◌, List, [], ◌∷◌, ◌++◌, IsTrue, length, refl, sym, ap, subst, ◌∙◌, inl, inr, arith}
use Rattle.std.specs.Prelude.{is_some}
use Rattle.std.specs.Cmp.Lexicographic.{slice_cmp}
use Rattle.std.specs.declared.cmp.Ordering.{Ordering}
use Rattle.std.specs.declared.cmp.Ordering.TheVariants.{Less, Equal, Greater}
use Rattle.std.specs.Ordering.{is_le, ordering_then}
use Rattle.std.proofs.lemmas.Cmp.{nat_list_cmp_total, lists_total, tied_itself}
use Rattle.std.proofs.lemmas.Bool.{cases_lt, and_from, le-leb, or_cases, or_left, both_ways}
use Rattle.weave_data.specs.Names.{name_cmp, same_name, one_name}
use Rattle.weave_data.specs.declared.name.Name.{Name}
use Rattle.graph_ops.specs.Mentions.{is_among}
use Rattle.graph_ops.specs.PlainGraph.{PlainGraph}
use Rattle.graph_ops.proofs.Vertices.{same_name-refl}
use Rattle.program_defs.specs.declared.passing.Passing.{Passing}
use Rattle.program_defs.specs.Ranks.{IsRankedAt, trace}
use Rattle.program_defs.specs.Visits.{levels_to, through_level}
use Rattle.program_defs.specs.Walks.{targets, is_walk, walk_length, IsLeastWalk}
use Rattle.program_defs.proofs.Closed.{first_step, one_vertex}
use Rattle.program_defs.proofs.Levels.{targets-through, through-more, new-in-level, walk-and-edge, length-and-edge}
use Rattle.program_defs.proofs.Members.{among-cases, target-of, lists-equal}

-- The order of lists of names

le-itself : (xs : List Name) → IsTrue (is_le (slice_cmp name_cmp xs xs))
le-itself xs = ap is_le (tied_itself (lists_total nat_list_cmp_total) xs)

lists-chain : (xs ys zs : List Name) → IsTrue (is_le (slice_cmp name_cmp xs ys)) → IsTrue (is_le (slice_cmp name_cmp ys zs)) → IsTrue (is_le (slice_cmp name_cmp xs zs))
lists-chain xs ys zs a b = at (slice_cmp name_cmp xs ys) (slice_cmp name_cmp ys zs) refl refl a b
  where
    at : (o p : Ordering) → slice_cmp name_cmp xs ys ≡ o → slice_cmp name_cmp ys zs ≡ p → IsTrue (is_le o) → IsTrue (is_le p) → IsTrue (is_le (slice_cmp name_cmp xs zs))
    at Less Less e f a b = ap is_le ((lists_total nat_list_cmp_total).trans xs ys zs e f)
    at Less Equal e f a b = subst (λ ws. IsTrue (is_le (slice_cmp name_cmp xs ws))) (lists-equal ys zs f) (ap is_le e)
    at Equal p e f a b = subst (λ ws. IsTrue (is_le (slice_cmp name_cmp ws zs))) (sym (lists-equal xs ys e)) (ap is_le f ∙ b)
    at Less Greater e f a b = cc
    at Greater p e f a b = cc

-- with one more name each
le-snoc : (xs ys : List Name) (v w : Name) → length xs ≡ length ys → IsTrue (is_le (slice_cmp name_cmp xs ys)) → (slice_cmp name_cmp xs ys ≡ Equal → IsTrue (is_le (name_cmp v w)))
    → IsTrue (is_le (slice_cmp name_cmp (xs ++ v ∷ []) (ys ++ w ∷ [])))
le-snoc [] [] v w e le last = at (name_cmp v w) (last refl)
  where
    at : (o : Ordering) → IsTrue (is_le o) → IsTrue (is_le (ordering_then o Equal))
    at Less h = refl
    at Equal h = refl
    at Greater h = cc
le-snoc [] (y ∷ ys) v w e le last = absurd (omega (arith, e))
le-snoc (x ∷ xs) [] v w e le last = absurd (omega (arith, e))
le-snoc (x ∷ xs) (y ∷ ys) v w e le last = at (name_cmp x y) (λ l k. le-snoc xs ys v w (omega (arith, e)) l k) le last
  where
    at : (o : Ordering) → (IsTrue (is_le (slice_cmp name_cmp xs ys)) → (slice_cmp name_cmp xs ys ≡ Equal → IsTrue (is_le (name_cmp v w))) → IsTrue (is_le (slice_cmp name_cmp (xs ++ v ∷ []) (ys ++ w ∷ []))))
        → IsTrue (is_le (ordering_then o (slice_cmp name_cmp xs ys))) → (ordering_then o (slice_cmp name_cmp xs ys) ≡ Equal → IsTrue (is_le (name_cmp v w)))
        → IsTrue (is_le (ordering_then o (slice_cmp name_cmp (xs ++ v ∷ []) (ys ++ w ∷ []))))
    at Less rest l k = refl
    at Equal rest l k = rest l k
    at Greater rest l k = cc

-- the last name of a list
abbrev last_or : Name → List Name → Name
last_or d [] = d
last_or d (x ∷ xs) = last_or x xs

last-is : (xs : List Name) (d v : Name) → last_or d (xs ++ v ∷ []) ≡ v
last-is [] d v = refl
last-is (x ∷ xs) d v = last-is xs x v

long-snoc : (xs : List Name) (v : Name) → length (xs ++ v ∷ []) ≡ suc (length xs)
long-snoc [] v = refl
long-snoc (x ∷ xs) v = ap suc (long-snoc xs v)

trace-long : (parent : Name → Name) (n : ℕ) (v : Name) → length (trace parent n v) ≡ suc n
trace-long parent zero v = refl
trace-long parent (suc n) v = long-snoc (trace parent n (parent v)) v ∙ ap suc (trace-long parent n (parent v))

trace-last : (parent : Name → Name) (n : ℕ) (d v : Name) → last_or d (trace parent n v) ≡ v
trace-last parent zero d v = refl
trace-last parent (suc n) d v = last-is (trace parent n (parent v)) d v

-- one list over parents ends at one vertex
trace-end : (parent : Name → Name) (n : ℕ) (v w : Name) → trace parent n v ≡ trace parent n w → v ≡ w
trace-end parent n v w e = sym (trace-last parent n v v) ∙ ap (last_or v) e ∙ trace-last parent n v w

-- Lists that lead to a vertex

-- a list of vertices that leads from the start to a vertex over n passing edges; the vertex itself need not be there
abbrev pub IsLead : ℕ → PlainGraph → Passing → Name → Name → List Name → Type 0
IsLead zero graph pass from v lead = (v ≡ from) × (lead ≡ v ∷ [])
IsLead (suc n) graph pass from v lead = (u : Name) × (front : List Name) × (lead ≡ front ++ v ∷ []) × IsLead n graph pass from u front × IsTrue (is_among (targets pass (graph u)) v)

module _ (graph : PlainGraph) (pass : Passing) (from : Name) where
  lead-long : (n : ℕ) (v : Name) (lead : List Name) → IsLead n graph pass from v lead → length lead ≡ suc n
  lead-long zero v lead l = ap length l.1
  lead-long (suc n) v lead l = ap length l.2 ∙ long-snoc l.1 v ∙ ap suc (lead-long n l.0 l.1 l.3)

  lead-level : (n : ℕ) (v : Name) (lead : List Name) → IsLead n graph pass from v lead → IsTrue (is_among (through_level n graph pass from) v)
  lead-level zero v lead l = subst (λ u. IsTrue (is_among (from ∷ []) u)) (sym l.0) (or_left _ _ (same_name-refl from))
  lead-level (suc n) v lead l = targets-through graph pass from n l.0 v (lead-level n l.0 l.1 l.3) l.4

  -- the source of a vertex in level n + 1 is in level n
  source-level : (n : ℕ) (u v : Name) → IsTrue (is_among (through_level n graph pass from) u) → IsTrue (is_among (targets pass (graph u)) v) → IsTrue (is_among (levels_to (suc n) graph pass from).level v) → IsTrue (is_among (levels_to n graph pass from).level u)
  source-level zero u v h edge k = h
  source-level (suc n) u v h edge k =
      elim (among-cases (through_level n graph pass from) (levels_to (suc n) graph pass from).level u h) [
        | inl earlier ↦ absurd (both_ways _ (new-in-level graph pass from (suc (suc n)) v k) (targets-through graph pass from n u v earlier edge))
        | inr here ↦ here
      ]

  -- level 0 has no vertex but the start
  pub start-only : (v : Name) → IsTrue (is_among (levels_to 0 graph pass from).level v) → v ≡ from
  start-only v h = elim (or_cases (same_name from v) _ h) [ inl same ↦ sym (one_name from v same) | inr none ↦ cc ]

  -- no level before has a vertex of level d
  pub no-nearer : (d : ℕ) (v : Name) → IsTrue (is_among (levels_to d graph pass from).level v) → (l : ℕ) → IsTrue (is_among (through_level l graph pass from) v) → d ≤ l
  no-nearer zero v h l g = omega arith
  no-nearer (suc m) v h l g =
      elim (cases_lt l (suc m)) [
        | inl less ↦ (
            let e : m - l + l ≡ m = omega (arith, less) in
            absurd (both_ways _ (new-in-level graph pass from (suc m) v h) (subst (λ k. IsTrue (is_among (through_level k graph pass from) v)) e (through-more graph pass from (m - l) l v g))))
        | inr more ↦ more
      ]

  -- Walks

  walk-of-lead : (n : ℕ) (v : Name) (lead : List Name) → IsLead n graph pass from v lead → IsTrue (is_some (graph v)) → IsTrue (is_walk graph pass from v lead) × (walk_length lead ≡ n)
  walk-of-lead zero v lead l there =
      let one : IsTrue (is_walk graph pass from v (v ∷ [])) = and_from _ _ (and_from _ _ (subst (λ u. IsTrue (same_name u v)) l.0 (same_name-refl v)) there) (same_name-refl v) in
      (subst (λ w. IsTrue (is_walk graph pass from v w)) (sym l.1) one, ap walk_length l.1)
  walk-of-lead (suc n) v lead l there =
      let w = walk-of-lead n l.0 l.1 l.3 (target-of pass (graph l.0) v l.4) in (
        subst (λ xs. IsTrue (is_walk graph pass from v xs)) (sym l.2) (walk-and-edge graph pass from l.0 v l.1 w.0 l.4 there),
        ap walk_length l.2 ∙ length-and-edge graph pass from l.0 v l.1 w.0 ∙ ap suc w.1,
      )

  lead-onward : (rest : List Name) (k : ℕ) (v to : Name) (xs : List Name) → IsLead k graph pass from v xs → IsTrue (is_walk graph pass v to (v ∷ rest)) → IsLead (k + length rest) graph pass from to (xs ++ rest)
  lead-onward [] k v to xs l w =
      let e : k ≡ k + 0 = omega arith in
      let end : v ≡ to = (one_vertex graph pass v to v w).end in
      subst (λ m. IsLead m graph pass from to (xs ++ [])) e (subst (λ ys. IsLead k graph pass from to ys) (sym (append-nil xs)) (subst (λ u. IsLead k graph pass from u xs) end l))
  lead-onward (y ∷ rest) k v to xs l w =
      let step = first_step graph pass v to v y rest w in
      let more : IsLead (suc k) graph pass from y (xs ++ y ∷ []) = (v, xs, refl, l, step.edge) in
      let e : suc k + length rest ≡ k + suc (length rest) = omega arith in
      subst (λ m. IsLead m graph pass from to (xs ++ y ∷ rest)) e
      (subst (λ ys. IsLead (suc k + length rest) graph pass from to ys) (append_assoc xs (y ∷ []) rest) (lead-onward rest (suc k) y to (xs ++ y ∷ []) more step.onward))

  walk-start : (to v : Name) (rest : List Name) → IsTrue (is_walk graph pass from to (v ∷ rest)) → from ≡ v
  walk-start to v [] w = (one_vertex graph pass from to v w).start
  walk-start to v (y ∷ rest) w = (first_step graph pass from to v y rest w).start

  -- a walk leads from its start to its end over as many passing edges as its length says
  pub lead-of-walk : (to : Name) (walk : List Name) → IsTrue (is_walk graph pass from to walk) → IsLead (walk_length walk) graph pass from to walk
  lead-of-walk to [] w = cc
  lead-of-walk to (v ∷ rest) w =
      let start = walk-start to v rest w in
      let e : 0 + length rest ≡ length rest = omega arith in
      subst (λ m. IsLead m graph pass from to (v ∷ rest)) e (lead-onward rest 0 v to (v ∷ []) (sym start, refl) (subst (λ u. IsTrue (is_walk graph pass u to (v ∷ rest))) start w))

  -- Ranks

  module _ (parent : Name → Name) (rank : Name → ℕ) where
    -- the lists over parents are the least ones, and the vertices of the level are ranked by them
    record IsLeastOrder (n : ℕ) : Type 0 where
      least : (v : Name) → IsTrue (is_among (levels_to n graph pass from).level v) → (other : List Name) → IsLead n graph pass from v other → IsTrue (is_le (slice_cmp name_cmp (trace parent n v) other))
      order : (v w : Name) → IsTrue (is_among (levels_to n graph pass from).level v) → IsTrue (is_among (levels_to n graph pass from).level w) → rank v ≤ rank w → IsTrue (is_le (slice_cmp name_cmp (trace parent n v) (trace parent n w)))

    at-start : IsLeastOrder 0
    at-start = record {
      least = λ v h other l. subst (λ xs. IsTrue (is_le (slice_cmp name_cmp (v ∷ []) xs))) (sym l.1) (le-itself (v ∷ []));
      order = λ v w h g le. subst (λ u. IsTrue (is_le (slice_cmp name_cmp (v ∷ []) (u ∷ [])))) (start-only v h ∙ sym (start-only w g)) (le-itself (v ∷ []));
    }

    module _ (n : ℕ) (was : IsLeastOrder n) (at : IsRankedAt n graph pass from parent rank) where
      same-long : (v w : Name) → length (trace parent n v) ≡ length (trace parent n w)
      same-long v w = trace-long parent n v ∙ sym (trace-long parent n w)

      least-next : (v : Name) → IsTrue (is_among (levels_to (suc n) graph pass from).level v) → (other : List Name) → IsLead (suc n) graph pass from v other → IsTrue (is_le (slice_cmp name_cmp (trace parent (suc n) v) other))
      least-next v h other l =
          let p = parent v in
          let u_in = source-level n l.0 v (lead-level n l.0 l.1 l.3) l.4 h in
          let below = lists-chain (trace parent n p) (trace parent n l.0) l.1 (was.order p l.0 (at.before v h) u_in (at.first v l.0 h u_in l.4)) (was.least l.0 u_in l.1 l.3) in
          subst (λ xs. IsTrue (is_le (slice_cmp name_cmp (trace parent n p ++ v ∷ []) xs))) (sym l.2)
          (le-snoc (trace parent n p) l.1 v v (trace-long parent n p ∙ sym (lead-long n l.0 l.1 l.3)) below (λ e. ap is_le (tied_itself nat_list_cmp_total v)))

      order-next : (v w : Name) → IsTrue (is_among (levels_to (suc n) graph pass from).level v) → IsTrue (is_among (levels_to (suc n) graph pass from).level w) → rank v ≤ rank w → IsTrue (is_le (slice_cmp name_cmp (trace parent (suc n) v) (trace parent (suc n) w)))
      order-next v w h g le =
          elim (at.order v w h g le) [
            | inl less ↦ le-snoc (trace parent n (parent v)) (trace parent n (parent w)) v w (same-long (parent v) (parent w)) (was.order (parent v) (parent w) (at.before v h) (at.before w g) (omega (arith, less)))
                (λ e. (let one : rank (parent v) ≡ rank (parent w) = ap rank (trace-end parent n (parent v) (parent w) (lists-equal _ _ e)) in absurd (omega (arith, less, one))))
            | inr same ↦ (
                let one = same.0 in
                le-snoc (trace parent n (parent v)) (trace parent n (parent w)) v w (same-long (parent v) (parent w)) (was.order (parent v) (parent w) (at.before v h) (at.before w g) (omega (arith, one))) (λ e. same.1))
          ]

      next-level-order : IsLeastOrder (suc n)
      next-level-order = record { least = least-next; order = order-next }

    least-order : (n : ℕ) → ((k : ℕ) → k < n → IsRankedAt k graph pass from parent rank) → IsLeastOrder n
    least-order zero ranked = at-start
    least-order (suc n) ranked = next-level-order n (least-order n (λ k less. ranked k (omega (arith, less)))) (ranked n (omega arith))

    trace-leads : (n : ℕ) → ((k : ℕ) → k < n → IsRankedAt k graph pass from parent rank) → (v : Name) → IsTrue (is_among (levels_to n graph pass from).level v) → IsLead n graph pass from v (trace parent n v)
    trace-leads zero ranked v h = (start-only v h, refl)
    trace-leads (suc n) ranked v h =
        let at = ranked n (omega arith) in
        (parent v, trace parent n (parent v), refl, trace-leads n (λ k less. ranked k (omega (arith, less))) (parent v) (at.before v h), at.edge v h)

    -- the list over parents from a vertex that is there is the least walk to it
    pub trace-is-least : (d bound : ℕ) (to : Name) → ((k : ℕ) → k < d → IsRankedAt k graph pass from parent rank) → IsTrue (is_among (levels_to d graph pass from).level to) → IsTrue (is_some (graph to)) → IsTrue (is_among (through_level bound graph pass from) to)
        → IsLeastWalk bound graph pass from to (trace parent d to)
    trace-is-least d bound to ranked h there near =
        let walk = walk-of-lead d to (trace parent d to) (trace-leads d ranked to h) there in
        let long = walk.1 in
        let le = no-nearer d to h bound near in
        record {
          walks = and_from _ _ walk.0 (le-leb (walk_length (trace parent d to)) bound (omega (arith, long, le)));
          shortest = λ other w. (let more = no-nearer d to h (walk_length other) (lead-level (walk_length other) to other (lead-of-walk to other w)) in omega (arith, long, more));
          first = λ other w same. (least-order d ranked).least to h other (subst (λ m. IsLead m graph pass from to other) (same ∙ long) (lead-of-walk to other w));
        }
