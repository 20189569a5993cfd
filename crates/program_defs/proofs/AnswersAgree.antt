-- The plain answer depends on the states at the vertices visited alone.
-- Used by `only_visits_matter`, Asking and Feeding.
use Rattle.std.proofs.Common.{◌&&◌, ◌≡◌, ℕ, suc, ◌+◌, ◌-◌, ◌≤◌, ◌<◌, false, List, [], ◌∷◌, ◌++◌, IsTrue, sym, ap, subst, ◌∙◌, Some, None, ◌⊎◌, inl, inr, arith}
use Rattle.std.specs.Prelude.{is_some}
use Rattle.std.proofs.lemmas.Bool.{cases_lt, both_ways, or_cases, or_left, or_right, and_parts, and_from, leb-true, le-leb, false_from_ne_true}
use Rattle.weave_data.specs.Names.{same_name, one_name}
use Rattle.weave_data.specs.declared.name.Name.{Name}
use Rattle.graph_ops.specs.Mentions.{is_among}
use Rattle.graph_ops.specs.PlainGraph.{PlainGraph}
use Rattle.graph_ops.proofs.Vertices.{same_name-refl}
use Rattle.program_defs.specs.declared.passing.Passing.{Passing}
use Rattle.program_defs.specs.declared.passing.Passing.TheVariants.{Priced as ByPrice}
use Rattle.program_defs.specs.declared.program.Program.{Program}
use Rattle.program_defs.specs.declared.program.Program.TheVariants.{Show, Reach, Around, Path, Price}
use Rattle.program_defs.specs.declared.program.Answer.{Answer}
use Rattle.program_defs.specs.declared.program.Answer.TheVariants.{Shown, Reached, Found, Walk, Priced}
use Rattle.program_defs.specs.PlainAnswer.{IsPlainAnswer}
use Rattle.program_defs.specs.Visits.{through_level, up_to, visits_to, IsVisited}
use Rattle.program_defs.specs.Walks.{passing_of, targets, is_walk, walk_length, is_walk_within, IsLeastWalk}
use Rattle.program_defs.proofs.Closed.{first_step, one_vertex, end_present}
use Rattle.program_defs.proofs.Members.{among-left}
use Rattle.program_defs.proofs.Levels.{targets-through, levels-are-distances}
use Rattle.program_defs.specs.Agreement.{Agree, AgreeOnVisits, HoldsTargets}
use Rattle.program_defs.proofs.OneList.{not-there, goes-on}
use Rattle.program_defs.proofs.PricedAgree.{answers-alike}
use Rattle.program_defs.proofs.PricedTargets.{targets-are-edges}
use Rattle.program_defs.proofs.VisitsAgree.{target-there, up-to-only, same-levels, visits-same, agree-back}

-- Walks

-- a walk in the first graph is one in the second, if these agree on its vertices
walk-same : (g h : PlainGraph) (pass : Passing) (walk : List Name) (from to : Name) → Agree g h walk → IsTrue (is_walk g pass from to walk) → IsTrue (is_walk h pass from to walk)
walk-same g h pass [] from to a w = w
walk-same g h pass (v ∷ []) from to a w = subst (λ s. IsTrue (same_name from v && is_some s && same_name v to)) (a v (or_left _ _ (same_name-refl v))) w
walk-same g h pass (v ∷ u ∷ rest) from to a w =
    let all = and_parts (same_name from v && is_some (g v) && is_among (targets pass (g v)) u) _ w in
    and_from _ _ (subst (λ s. IsTrue (same_name from v && is_some s && is_among (targets pass s) u)) (a v (or_left _ _ (same_name-refl v))) all.0)
    (walk-same g h pass (u ∷ rest) u to (λ x k. a x (or_right (same_name v x) _ k)) all.1)

-- a vertex on a walk is its end, or the end of a shorter one
pub record IsOnTheWay (g : PlainGraph) (pass : Passing) (from v : Name) (n : ℕ) : Type 0 where
  pub walk : List Name
  pub is : IsTrue (is_walk g pass from v walk)
  pub shorter : walk_length walk < n

on-the-way : (g : PlainGraph) (pass : Passing) (walk : List Name) (from to v : Name) → IsTrue (is_walk g pass from to walk) → IsTrue (is_among walk v) → (v ≡ to) ⊎ IsOnTheWay g pass from v (walk_length walk)
on-the-way g pass [] from to v w k = cc
on-the-way g pass (x ∷ []) from to v w k =
    let one = one_vertex g pass from to x w in
    elim (or_cases (same_name x v) _ k) [ inl same ↦ inl (sym (one_name x v same) ∙ one.end) | inr none ↦ cc ]
on-the-way g pass (x ∷ y ∷ rest) from to v w k =
    let step = first_step g pass from to x y rest w in
    elim (or_cases (same_name x v) _ k) [
      | inl same ↦ inr (record {
        walk = x ∷ [];
        is = subst (λ f. IsTrue (is_walk g pass f v (x ∷ []))) (sym step.start) (subst (λ e. IsTrue (is_walk g pass x e (x ∷ []))) (one_name x v same) (and_from _ _ (and_from _ _ (same_name-refl x) step.there) (same_name-refl x)));
        shorter = omega arith;
      })
      | inr more ↦ elim (on-the-way g pass (y ∷ rest) y to v step.onward more) [
        | inl end ↦ inl end
        | inr way ↦ inr (longer way.walk way.is way.shorter step.start step.there step.edge)
      ]
    ]
  where
    longer : (walk : List Name) → IsTrue (is_walk g pass y v walk) → walk_length walk < walk_length (y ∷ rest) → from ≡ x → IsTrue (is_some (g x)) → IsTrue (is_among (targets pass (g x)) y) → IsOnTheWay g pass from v (walk_length (x ∷ y ∷ rest))
    longer [] is lt start there edge = cc
    longer (z ∷ zs) is lt start there edge =
        let head : y ≡ z = head-is zs is in
        record {
          walk = x ∷ z ∷ zs;
          is = and_from _ _ (and_from _ _ (and_from _ _ (subst (λ f. IsTrue (same_name f x)) (sym start) (same_name-refl x)) there) (subst (λ u. IsTrue (is_among (targets pass (g x)) u)) head edge)) (subst (λ u. IsTrue (is_walk g pass u v (z ∷ zs))) head is);
          shorter = omega (arith, lt);
        }
      where
        head-is : (zs : List Name) → IsTrue (is_walk g pass y v (z ∷ zs)) → y ≡ z
        head-is [] is = (one_vertex g pass y v z is).start
        head-is (w' ∷ zs) is = (first_step g pass y v z w' zs is).start

-- Levels

-- more levels begin with these
longer-levels : (g : PlainGraph) (pass : Passing) (from : Name) (n m : ℕ) → n ≤ m → (more : List Name) × (through_level m g pass from ≡ through_level n g pass from ++ more)
longer-levels g pass from n m le = let rest = goes-on g pass from (m - n) n in let e : m - n + n ≡ m = omega (arith, le) in (rest.0, ap (λ k. through_level k g pass from) (sym e) ∙ rest.1)

module _ (g : PlainGraph) (pass : Passing) (from : Name) where
  -- a walk's end is in the levels that it reaches
  reaches : (to : Name) (walk : List Name) (n : ℕ) → IsTrue (is_walk g pass from to walk) → walk_length walk ≤ n → IsTrue (is_among (through_level n g pass from) to)
  reaches to walk n w le = (levels-are-distances g pass from n to (end_present g pass from to walk w)).1 (walk, and_from _ _ w (le-leb (walk_length walk) n le))

  -- and an existing vertex of these levels is a walk's end
  reached-by : (to : Name) (n : ℕ) → IsTrue (is_some (g to)) → IsTrue (is_among (through_level n g pass from) to) → (walk : List Name) × IsTrue (is_walk g pass from to walk) × (walk_length walk ≤ n)
  reached-by to n there k =
      let w = (levels-are-distances g pass from n to there).0 k in
      let parts = and_parts (is_walk g pass from to w.0) _ w.1 in
      (w.0, parts.0, leb-true (walk_length w.0) n parts.1)

-- Walks to a target, if the graphs agree on what is visited up to it

module _ (g h : PlainGraph) (pass : Passing) (from to : Name) where
  -- there is a walk of at most that many edges in the other graph too
  pub walk-over : (n : ℕ) → up_to to (through_level n g pass from) ≡ up_to to (through_level n h pass from) → Agree g h (up_to to (through_level n g pass from)) → (walk : List Name) → IsTrue (is_walk g pass from to walk) → walk_length walk ≤ n → (other : List Name) × IsTrue (is_walk h pass from to other) × (walk_length other ≤ n)
  walk-over n same a walk w le =
      let there = target-there to (through_level n g pass from) (reaches g pass from to walk n w le) in
      let present : IsTrue (is_some (h to)) = subst (λ s. IsTrue (is_some s)) (a to there) (end_present g pass from to walk w) in
      reached-by h pass from to n present (up-to-only to (through_level n h pass from) to (subst (λ xs. IsTrue (is_among xs to)) same there))

  -- what is in levels that don't have the target is visited
  before-target : (n bound : ℕ) → n ≤ bound → is_among (through_level n g pass from) to ≡ false → (v : Name) → IsTrue (is_among (through_level n g pass from) v) → IsTrue (is_among (up_to to (through_level bound g pass from)) v)
  before-target n bound le none v k =
      let more = longer-levels g pass from n bound le in
      subst (λ xs. IsTrue (is_among xs v)) (sym (ap (up_to to) more.1 ∙ not-there to (through_level n g pass from) more.0 none)) (among-left (through_level n g pass from) (up_to to more.0) v k)

  -- if no shorter walk leads there, the target isn't in the levels before
  not-before : (d : ℕ) → ((other : List Name) → IsTrue (is_walk g pass from to other) → d ≤ walk_length other) → IsTrue (is_some (g to)) → (n : ℕ) → n < d → is_among (through_level n g pass from) to ≡ false
  not-before d least there n lt = false_from_ne_true _ (λ k. let w = reached-by g pass from to n there k in let le = w.2 in let more = least w.0 w.1 in omega (arith, le, more, lt))

  -- a least walk is one in the other graph
  least-over : (bound : ℕ) → Agree g h (up_to to (through_level bound g pass from)) → (walk : List Name) → IsTrue (is_walk g pass from to walk) → walk_length walk ≤ bound → ((other : List Name) → IsTrue (is_walk g pass from to other) → walk_length walk ≤ walk_length other) → IsTrue (is_walk h pass from to walk)
  least-over bound a walk w le least =
      let there = end_present g pass from to walk w in
      walk-same g h pass walk from to (λ v k.
      elim (on-the-way g pass walk from to v w k) [
        | inl end ↦ subst (λ x. g x ≡ h x) (sym end) (a to (target-there to (through_level bound g pass from) (reaches g pass from to walk bound w le)))
        | inr way ↦ let lt = way.shorter in a v (before-target (walk_length way.walk) bound (omega (arith, lt, le)) (not-before (walk_length walk) least there (walk_length way.walk) lt) v (reaches g pass from v way.walk (walk_length way.walk) way.is (omega arith)))
      ]) w

  -- no walk of the other graph is shorter than a least one
  none-shorter : (bound : ℕ) → Agree g h (up_to to (through_level bound g pass from)) → (walk : List Name) → IsTrue (is_walk g pass from to walk) → walk_length walk ≤ bound → ((other : List Name) → IsTrue (is_walk g pass from to other) → walk_length walk ≤ walk_length other)
      → (other : List Name) → IsTrue (is_walk h pass from to other) → walk_length walk ≤ walk_length other
  none-shorter bound a walk w le least other o =
      elim (cases_lt (walk_length other) (walk_length walk)) [
        | inr more ↦ more
        | inl less ↦
            let there = end_present g pass from to walk w in
            let none = not-before (walk_length walk) least there (walk_length other) less in
            let same = same-levels g h pass from (walk_length other) (λ v k. a v (before-target (walk_length other) bound (omega (arith, less, le)) none v k)) in
            absurd (both_ways _ none (subst (λ xs. IsTrue (is_among xs to)) (sym same) (reaches h pass from to other (walk_length other) o (omega arith))))
      ]

-- Answers

least-same : (g h : PlainGraph) (pass : Passing) (from to : Name) (bound : ℕ) → Agree g h (up_to to (through_level bound g pass from)) → Agree h g (up_to to (through_level bound h pass from)) → (walk : List Name) → IsLeastWalk bound g pass from to walk → IsLeastWalk bound h pass from to walk
least-same g h pass from to bound a b walk least =
    let parts = and_parts (is_walk g pass from to walk) _ least.walks in
    let le = leb-true (walk_length walk) bound parts.1 in
    let over = least-over g h pass from to bound a walk parts.0 le least.shortest in
    let shortest = none-shorter g h pass from to bound a walk parts.0 le least.shortest in
    record {
      walks = and_from _ _ over parts.1;
      shortest = shortest;
      first = λ other o same. least.first other (least-over h g pass from to bound b other o (omega (arith, same, le)) (λ third t. let k = shortest third t in omega (arith, same, k))) same;
    }

-- the vertices that `price` visits have the start, and with a vertex each target of its passing edges
visited-holds : (g : PlainGraph) (from to key : Name) → HoldsTargets g key from (IsVisited g (Price from to key))
visited-holds g from to key =
    record {
      start = (0, or_left _ _ (same_name-refl from));
      onward = λ u v price k edge. (suc k.0, targets-through g (ByPrice key) from k.0 u v k.1 ((targets-are-edges key (g u) v).1 (price, edge)));
    }

-- if each agrees with the other on what its own program visits, through each level
same-at : (g h : PlainGraph) (program : Program) → ((n : ℕ) → Agree g h (visits_to n g program)) → ((n : ℕ) → Agree h g (visits_to n h program)) → (answer : Answer) → IsPlainAnswer g program answer → IsPlainAnswer h program answer
same-at g h (Show v) a b (Shown state) is = is ∙ a 0 v (or_left _ _ (same_name-refl v))
same-at g h (Reach from to pass) a b (Reached reached) is = (
  λ yes'. let w = is.0 yes' in let other = walk-over g h (passing_of pass) from to (walk_length w.0) (visits-same g h (Reach from to pass) (walk_length w.0) (a (walk_length w.0))) (a (walk_length w.0)) w.0 w.1 (omega arith) in (other.0, other.1),
  λ w. is.1 (let other = walk-over h g (passing_of pass) from to (walk_length w.0) (visits-same h g (Reach from to pass) (walk_length w.0) (b (walk_length w.0))) (b (walk_length w.0)) w.0 w.1 (omega arith) in (other.0, other.1)),
)
same-at g h (Around from bound pass) a b (Found vertices) is =
    let same = visits-same g h (Around from bound pass) 0 (a 0) in (
      is.0,
      λ v. (
        λ k. (let w = (is.1 v).0 k in ends g h same (λ u m. a 0 u m) v w.0 w.1),
        λ w. (is.1 v).1 (ends h g (sym same) (b 0) v w.0 w.1),
      ),
    )
  where
    ends : (x y : PlainGraph) → through_level bound x (passing_of pass) from ≡ through_level bound y (passing_of pass) from → Agree x y (through_level bound x (passing_of pass) from) → (v : Name) (walk : List Name) → IsTrue (is_walk_within bound x (passing_of pass) from v walk) → (other : List Name) × IsTrue (is_walk_within bound y (passing_of pass) from v other)
    ends x y same agree v walk w =
        let parts = and_parts (is_walk x (passing_of pass) from v walk) _ w in
        let there = reaches x (passing_of pass) from v walk bound parts.0 (leb-true (walk_length walk) bound parts.1) in
        let present : IsTrue (is_some (y v)) = subst (λ s. IsTrue (is_some s)) (agree v there) (end_present x (passing_of pass) from v walk parts.0) in
        let other = reached-by y (passing_of pass) from v bound present (subst (λ xs. IsTrue (is_among xs v)) same there) in
        (other.0, and_from _ _ other.1 (le-leb (walk_length other.0) bound other.2))
same-at g h (Path from to bound pass) a b (Walk (Some walk)) is = least-same g h (passing_of pass) from to bound (a 0) (b 0) walk is
same-at g h (Path from to bound pass) a b (Walk None) is =
    λ walk w.
    let parts = and_parts (is_walk h (passing_of pass) from to walk) _ w in
    let other = walk-over h g (passing_of pass) from to bound (visits-same h g (Path from to bound pass) 0 (b 0)) (b 0) walk parts.0 (leb-true (walk_length walk) bound parts.1) in
    is other.0 (and_from _ _ other.1 (le-leb (walk_length other.0) bound other.2))
same-at g h (Price from to key) a b (Priced walk total bounds) is =
    answers-alike key from (IsVisited g (Price from to key)) g h (visited-holds g from to key) (λ v k. a k.0 v k.1) to walk total bounds is
same-at g h (Show v) a b (Reached reached) is = absurd is
same-at g h (Show v) a b (Found vertices) is = absurd is
same-at g h (Show v) a b (Walk walk) is = absurd is
same-at g h (Reach from to pass) a b (Shown state) is = absurd is
same-at g h (Reach from to pass) a b (Found vertices) is = absurd is
same-at g h (Reach from to pass) a b (Walk walk) is = absurd is
same-at g h (Around from bound pass) a b (Shown state) is = absurd is
same-at g h (Around from bound pass) a b (Reached reached) is = absurd is
same-at g h (Around from bound pass) a b (Walk walk) is = absurd is
same-at g h (Path from to bound pass) a b (Shown state) is = absurd is
same-at g h (Path from to bound pass) a b (Reached reached) is = absurd is
same-at g h (Path from to bound pass) a b (Found vertices) is = absurd is
same-at g h (Show v) a b (Priced walk total bounds) is = absurd is
same-at g h (Reach from to pass) a b (Priced walk total bounds) is = absurd is
same-at g h (Around from bound pass) a b (Priced walk total bounds) is = absurd is
same-at g h (Path from to bound pass) a b (Priced walk total bounds) is = absurd is
same-at g h (Price from to key) a b (Shown state) is = absurd is
same-at g h (Price from to key) a b (Reached reached) is = absurd is
same-at g h (Price from to key) a b (Found vertices) is = absurd is
same-at g h (Price from to key) a b (Walk walk) is = absurd is

-- graphs that agree on the visits of a program have the same plain answers of it
pub answer-same : (g h : PlainGraph) (program : Program) → AgreeOnVisits g h program → (answer : Answer) → IsPlainAnswer g program answer → IsPlainAnswer h program answer
answer-same g h program a = same-at g h program (λ n v k. a v (n, k)) (λ n v k. agree-back g h program a v (n, k))
