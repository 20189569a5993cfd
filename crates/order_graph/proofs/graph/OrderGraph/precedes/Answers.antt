use Rattle.std.proofs.Common.{◌≡◌, Bool, true, false, IsTrue, ◌∷◌, List, ap, ◌∙◌, sym, subst, inl, inr, refl}
use Rattle.std.proofs.lemmas.Bool.{or_cases, both_ways}
use Rattle.vector_stamp.specs.Order.{stamp_before}
use Rattle.vector_stamp.specs.Coherence.{AreCoherent}
use Rattle.vector_stamp.specs.Precedence.{GivenPair, precedes}
use Rattle.order_graph.specs.Kept.{PairsView}
use Rattle.order_graph.specs.Building.{ends_of}
use Rattle.order_graph.specs.Frontiers.{is_up_to_frontier, IsFrontier}
use Rattle.order_graph.specs.Chains.{AreChains}
use Rattle.weave_data.proofs.Members.{has_tail}
use Rattle.order_graph.proofs.Joining.{CoveredBy, covered}
use Rattle.order_graph.proofs.Frontiers.{at_precedes}
use Rattle.order_graph.proofs.graph.OrderGraph.precedes.Goals as goal

-- two tests that pass together are equal
same_test : (p q : Bool) → (IsTrue p → IsTrue q) → (IsTrue q → IsTrue p) → p ≡ q
same_test true q g h = sym (g refl)
same_test false true g h = absurd (cc (h refl))
same_test false false g h = refl

pub returns-then-is_before-clause-exact : goal.returns-then-is_before-clause-exact
returns-then-is_before-clause-exact c =
    c.if-is_before.true ∙ sym ((c.precedence_is_decided.ensures.closed c.args.self.now.pairs).has_stamps c.args.a.now c.args.b.now (sym c.if-is_before.ensures))

pub returns-else-is_before-clause-exact : goal.returns-else-is_before-clause-exact
returns-else-is_before-clause-exact c =
    let pairs = c.args.self.now.pairs in
    let a = c.args.a.now in
    let b = c.args.b.now in
    let latest = c.frontier_of.result.latest in
    let closed = c.precedence_is_decided.ensures.closed pairs in
    let kept : c.self.inside.pairs.items ≡ pairs = ap (λ (k : PairsView). k.pairs) c.self.view_is in
    let are : AreChains pairs (ends_of pairs) c.self.inside.chains = subst (λ (ps : List GivenPair). AreChains ps (ends_of ps) c.self.inside.chains) kept c.self.invariant.1 in
    let coherent : AreCoherent (b ∷ ends_of pairs) = c.parts_and_unions_are_coherent.ensures.part (b ∷ ends_of pairs) (a ∷ b ∷ ends_of pairs) c.requires (λ stamp h. has_tail a (b ∷ ends_of pairs) stamp h) in
    let exact : IsFrontier pairs b latest = c.frontier_of.ensures pairs are coherent in
    c.covers.ensures ∙ same_test (is_up_to_frontier latest a) (precedes pairs a b)
    (λ by.
    let some : CoveredBy latest a = covered latest a by in
    at_precedes c.stamps_keep_the_laws.ensures pairs closed a some.1 b some.3 (exact.precede some.0 some.1 some.2).2)
    (λ way. elim (or_cases (stamp_before a b) _ (exact.all a way)) [
      | inl before ↦ absurd (both_ways (stamp_before a b) (sym c.if-is_before.ensures) before)
      | inr by ↦ by
    ])
