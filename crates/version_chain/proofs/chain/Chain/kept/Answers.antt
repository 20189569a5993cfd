use Rattle.std.proofs.Common.{length, ap, arith}
use Rattle.version_chain.specs.Chains.{ChainView}
use Rattle.version_chain.proofs.Histories.{kept_length}
use Rattle.version_chain.proofs.chain.Chain.kept.Goals as goal

pub returns-clause-count : goal.returns-clause-count
returns-clause-count c =
    let seen = ap (λ (chain : ChainView). length chain.kept) c.self.view_is in
    omega (arith, seen, kept_length c.self.inside.parts c.self.inside.dropped c.self.inside.stamps.items, c.len.ensures, c.self.inside.stamps.ok.0)

pub returns-clause-base : goal.returns-clause-base
returns-clause-base c = λ some.
    let seen = ap (λ (chain : ChainView). length chain.kept) c.self.view_is in
    let gone = ap (λ (chain : ChainView). chain.dropped) c.self.view_is in
    let one = c.self.invariant.one (omega (arith, some, gone)) in
    omega (arith, one, seen, kept_length c.self.inside.parts c.self.inside.dropped c.self.inside.stamps.items)
