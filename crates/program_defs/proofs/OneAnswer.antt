-- A program has one plain answer at most on a graph.
-- Used by `plain_answer_is_one`.
use Rattle.std.proofs.Common.{◌≡◌, List, IsTrue, refl, sym, ap, ◌∙◌, Some, None, arith}
use Rattle.std.specs.Cmp.{both_ways as same_test}
use Rattle.std.specs.Cmp.Lexicographic.{slice_cmp}
use Rattle.std.specs.declared.cmp.Ordering.{Ordering}
use Rattle.std.specs.declared.cmp.Ordering.TheVariants.{Less, Equal, Greater}
use Rattle.std.specs.Ordering.{is_le, ordering_reverse}
use Rattle.std.proofs.lemmas.Cmp.{nat_list_cmp_total, lists_total}
use Rattle.std.proofs.lemmas.Bool.{and_parts}
use Rattle.weave_data.specs.Names.{name_cmp}
use Rattle.weave_data.specs.declared.name.Name.{Name}
use Rattle.graph_ops.specs.PlainGraph.{PlainGraph}
use Rattle.program_defs.specs.declared.program.Program.{Program}
use Rattle.program_defs.specs.declared.program.Program.TheVariants.{Show, Reach, Around, Path, Price}
use Rattle.program_defs.specs.declared.program.Answer.{Answer}
use Rattle.program_defs.specs.declared.program.Answer.TheVariants.{Shown, Reached, Found, Walk, Priced}
use Rattle.program_defs.specs.PlainAnswer.{IsPlainAnswer}
use Rattle.program_defs.specs.Walks.{passing_of, is_walk, walk_length}
use Rattle.program_defs.proofs.Members.{lists-equal}
use Rattle.program_defs.proofs.OnePrice.{answer-one}
use Rattle.program_defs.proofs.Sets.{same-sets, rising-set}

-- names lists that are each at most the other are equal
same-walks : (a b : List Name) → IsTrue (is_le (slice_cmp name_cmp a b)) → IsTrue (is_le (slice_cmp name_cmp b a)) → a ≡ b
same-walks a b h g = lists-equal a b (at (slice_cmp name_cmp a b) (slice_cmp name_cmp b a) ((lists_total nat_list_cmp_total).antisymm a b) h g)
  where
    at : (o p : Ordering) → o ≡ ordering_reverse p → IsTrue (is_le o) → IsTrue (is_le p) → o ≡ Equal
    at Equal p e h g = refl
    at Greater p e h g = cc
    at Less Less e h g = cc
    at Less Equal e h g = cc
    at Less Greater e h g = cc

-- two plain answers of a program on one graph are equal
pub one_answer : (graph : PlainGraph) (program : Program) (a b : Answer) → IsPlainAnswer graph program a → IsPlainAnswer graph program b → a ≡ b
one_answer graph (Show v) (Shown s) (Shown t) g h = ap Shown (g ∙ sym h)
one_answer graph (Reach from to pass) (Reached x) (Reached y) g h = ap Reached (same_test x y (λ k. h.1 (g.0 k)) (λ k. g.1 (h.0 k)))
one_answer graph (Around from bound pass) (Found xs) (Found ys) g h =
    ap Found (same-sets xs ys (rising-set xs g.0) (rising-set ys h.0) (λ v. same_test _ _ (λ k. (h.1 v).1 ((g.1 v).0 k)) (λ k. (g.1 v).1 ((h.1 v).0 k))))
one_answer graph (Path from to bound pass) (Walk (Some xs)) (Walk (Some ys)) g h =
    let x = and_parts (is_walk graph (passing_of pass) from to xs) _ g.walks in
    let y = and_parts (is_walk graph (passing_of pass) from to ys) _ h.walks in
    let le = g.shortest ys y.0 in
    let ge = h.shortest xs x.0 in
    let same : walk_length ys ≡ walk_length xs = omega (arith, le, ge) in
    ap (λ w. Walk (Some w)) (same-walks xs ys (g.first ys y.0 same) (h.first xs x.0 (sym same)))
one_answer graph (Path from to bound pass) (Walk (Some xs)) (Walk None) g h = absurd (h xs g.walks)
one_answer graph (Path from to bound pass) (Walk None) (Walk (Some ys)) g h = absurd (g ys h.walks)
one_answer graph (Path from to bound pass) (Walk None) (Walk None) g h = refl
one_answer graph (Price from to key) (Priced walk total bounds) (Priced other sum list) g h =
    let same = answer-one graph from to key walk other total sum bounds list g h in
    λ i. Priced (same.0 i) (same.1 i) (same.2 i)
one_answer graph (Show v) (Reached x) b g h = absurd g
one_answer graph (Show v) (Found x) b g h = absurd g
one_answer graph (Show v) (Walk x) b g h = absurd g
one_answer graph (Show v) (Shown s) (Reached x) g h = absurd h
one_answer graph (Show v) (Shown s) (Found x) g h = absurd h
one_answer graph (Show v) (Shown s) (Walk x) g h = absurd h
one_answer graph (Reach from to pass) (Shown x) b g h = absurd g
one_answer graph (Reach from to pass) (Found x) b g h = absurd g
one_answer graph (Reach from to pass) (Walk x) b g h = absurd g
one_answer graph (Reach from to pass) (Reached s) (Shown x) g h = absurd h
one_answer graph (Reach from to pass) (Reached s) (Found x) g h = absurd h
one_answer graph (Reach from to pass) (Reached s) (Walk x) g h = absurd h
one_answer graph (Around from bound pass) (Shown x) b g h = absurd g
one_answer graph (Around from bound pass) (Reached x) b g h = absurd g
one_answer graph (Around from bound pass) (Walk x) b g h = absurd g
one_answer graph (Around from bound pass) (Found s) (Shown x) g h = absurd h
one_answer graph (Around from bound pass) (Found s) (Reached x) g h = absurd h
one_answer graph (Around from bound pass) (Found s) (Walk x) g h = absurd h
one_answer graph (Path from to bound pass) (Shown x) b g h = absurd g
one_answer graph (Path from to bound pass) (Reached x) b g h = absurd g
one_answer graph (Path from to bound pass) (Found x) b g h = absurd g
one_answer graph (Path from to bound pass) (Walk s) (Shown x) g h = absurd h
one_answer graph (Path from to bound pass) (Walk s) (Reached x) g h = absurd h
one_answer graph (Path from to bound pass) (Walk s) (Found x) g h = absurd h
one_answer graph (Show v) (Priced w t l) b g h = absurd g
one_answer graph (Show v) (Shown s) (Priced w t l) g h = absurd h
one_answer graph (Reach from to pass) (Priced w t l) b g h = absurd g
one_answer graph (Reach from to pass) (Reached s) (Priced w t l) g h = absurd h
one_answer graph (Around from bound pass) (Priced w t l) b g h = absurd g
one_answer graph (Around from bound pass) (Found s) (Priced w t l) g h = absurd h
one_answer graph (Path from to bound pass) (Priced w t l) b g h = absurd g
one_answer graph (Path from to bound pass) (Walk s) (Priced w t l) g h = absurd h
one_answer graph (Price from to key) (Shown x) b g h = absurd g
one_answer graph (Price from to key) (Priced w t l) (Shown x) g h = absurd h
one_answer graph (Price from to key) (Reached x) b g h = absurd g
one_answer graph (Price from to key) (Priced w t l) (Reached x) g h = absurd h
one_answer graph (Price from to key) (Found x) b g h = absurd g
one_answer graph (Price from to key) (Priced w t l) (Found x) g h = absurd h
one_answer graph (Price from to key) (Walk x) b g h = absurd g
one_answer graph (Price from to key) (Priced w t l) (Walk x) g h = absurd h
