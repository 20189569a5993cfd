use Rattle.std.proofs.Common.{List, sym, subst, arith}
use Rattle.vector_stamp.specs.Precedence.{GivenPair, IsAcyclic}
use Rattle.order_graph.specs.Building.{ends_of}
use Rattle.order_graph.specs.Chains.{AreChains}
use Rattle.order_graph.proofs.Adding.{same_chains}
use Rattle.order_graph.proofs.graph.OrderGraph.reserve.Goals as goal

pub invariant_of-self-in_err-reserve_all : goal.invariant_of-self-in_err-reserve_all
invariant_of-self-in_err-reserve_all c =
    let chains = c.self.inside.chains in
    let same = c.reserve.ensures.items in
    let are = same_chains c.self.inside.pairs.items (ends_of c.self.inside.pairs.items) chains c.reserve_all.new.chains c.reserve_all.ensures.eight c.reserve_all.ensures.events c.self.invariant.1 in (
      subst IsAcyclic (sym same) c.self.invariant.0,
      subst (λ (ps : List GivenPair). AreChains ps (ends_of ps) c.reserve_all.new.chains) (sym same) are,
      λ gate below. omega (arith, c.self.invariant.2 gate below, c.reserve_all.ensures.never_less gate),
      omega (arith, c.self.invariant.3, c.reserve.ensures.len, c.reserve.ensures.capacity),
    )

pub invariant_of-self-2 : goal.invariant_of-self-2
invariant_of-self-2 c =
    let chains = c.self.inside.chains in
    let same = c.reserve.ensures.items in
    let are = same_chains c.self.inside.pairs.items (ends_of c.self.inside.pairs.items) chains c.reserve_all.new.chains c.reserve_all.ensures.eight c.reserve_all.ensures.events c.self.invariant.1 in (
      subst IsAcyclic (sym same) c.self.invariant.0,
      subst (λ (ps : List GivenPair). AreChains ps (ends_of ps) c.reserve_all.new.chains) (sym same) are,
      λ gate below. c.in_ok-reserve_all.ensures.room gate (omega (arith, below, c.self.invariant.1.eight)),
      c.in_ok-reserve.ensures.ok,
    )
