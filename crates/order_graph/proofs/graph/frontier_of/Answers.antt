use Rattle.std.proofs.Common.{◌≡◌, ◌<◌, Some, None, length, get_or, sym, subst, ap, ◌∙◌, arith}
use Rattle.std.proofs.lemmas.List.{get_or_default}
use Rattle.order_graph.specs.declared.frontier.Frontier.{Frontier}
use Rattle.order_graph.specs.Chains.{EventChainView, no_chain, IsRisingChain, IsLatestAt}
use Rattle.order_graph.proofs.Frontiers.{over_more, over_all}
use Rattle.order_graph.proofs.graph.frontier_of.Goals as goal
use Rattle.order_graph.proofs.graph.frontier_of.Goals.{in-Some, in_default}

pub loop-chain-preserved : goal.loop-chain-preserved
loop-chain-preserved c pairs are coherent =
    let i = c.loop-chain.chain-index in
    let chains = c.args.chains.now in
    let below : i < length chains = omega (arith, are.eight, c.loop-chain-test.true) in
    let same : get_or chains i c.chain-item.result ≡ get_or chains i no_chain = get_or_default chains i c.chain-item.result no_chain below in
    let rising : IsRisingChain (get_or chains i c.chain-item.result).events = subst (λ (chain : EventChainView). IsRisingChain chain.events) (sym same) (are.rising i) in
    let more = over_more c.stamps_keep_the_laws.ensures c.coherence_is_decided.ensures.apart pairs (c.precedence_is_decided.ensures.closed pairs) chains are c.args.event.now coherent i c.loop-chain.frontier.latest below (c.loop-chain.invariant pairs are coherent) in
    elim c.match-latest.branch [
      | in-Some w ↦
          more (Some w.in-Some.latest.now) (subst (λ (chain : EventChainView). IsLatestAt chain.events c.args.event.now (Some w.in-Some.latest.now)) same (w.in-Some.ensures rising)) c.match-latest.frontier.latest
          (ap (λ (f : Frontier). f.latest) w.frontier-is ∙ w.join.ensures)
      | in_default w ↦
          more None (subst (λ (chain : EventChainView). IsLatestAt chain.events c.args.event.now None) same (w.in_default.ensures rising)) c.match-latest.frontier.latest
          (ap (λ (f : Frontier). f.latest) w.frontier-is)
    ]

pub returns : goal.returns
returns c pairs are coherent =
    over_all c.stamps_keep_the_laws.ensures c.coherence_is_decided.ensures.apart pairs (c.precedence_is_decided.ensures.closed pairs) c.args.chains.now are c.args.event.now coherent (λ a b. (c.precedence_is_decided.ensures.tested pairs a b).0) (λ a b. (c.precedence_is_decided.ensures.tested pairs a b).1) c.loop-chain.chain-index c.loop-chain.frontier.latest (omega (arith, are.eight, c.loop-chain-test.false)) (c.loop-chain.invariant pairs are coherent)
