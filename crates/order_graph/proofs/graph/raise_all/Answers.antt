use Rattle.std.proofs.Common.{◌≡◌, rules, sym, subst, slice_index_or, arith}
use Rattle.std.proofs.lemmas.List.Edits.{map_over_more}
use Rattle.order_graph.specs.Chains.{EventChainView, no_chain, IsLedOn, raised_chain}
use Rattle.order_graph.proofs.Raising.{chain_so_far}
use Rattle.order_graph.proofs.graph.raise_all.Goals as goal

pub raise-requires-clause-earlier : goal.raise-requires-clause-earlier
raise-requires-clause-earlier c =
    let i = c.loop-chain.chain-index in
    let same : slice_index_or c.loop-chain.chains i c.chain-item.result ≡ slice_index_or c.args.chains.now i no_chain = chain_so_far c.args.earlier.now c.args.later.now c.args.frontier.now.latest c.args.chains.now c.loop-chain.chains i (omega (arith, c.told-chains, c.loop-chain-test.true)) c.loop-chain.invariant c.chain-item.result in
    subst (λ (chain : EventChainView). IsLedOn c.args.earlier.now chain.events) (sym same) (c.requires.earlier i)

pub raise-requires-clause-later : goal.raise-requires-clause-later
raise-requires-clause-later c =
    let i = c.loop-chain.chain-index in
    let same : slice_index_or c.loop-chain.chains i c.chain-item.result ≡ slice_index_or c.args.chains.now i no_chain = chain_so_far c.args.earlier.now c.args.later.now c.args.frontier.now.latest c.args.chains.now c.loop-chain.chains i (omega (arith, c.told-chains, c.loop-chain-test.true)) c.loop-chain.invariant c.chain-item.result in
    subst (λ (chain : EventChainView). IsLedOn c.args.later.now chain.events) (sym same) (c.requires.later i)

pub loop-chain-preserved : goal.loop-chain-preserved
loop-chain-preserved c = search (rules, map_over_more (raised_chain c.args.earlier.now c.args.later.now c.args.frontier.now.latest))
