use Rattle.std.proofs.Common.{◌≤◌, true, All, refl, subst, ap, ◌∙◌, arith}
use Rattle.std.specs.Prelude.{nat_le}
use Rattle.std.proofs.lemmas.Bool.{le-leb}
use Rattle.graph_ops.specs.Operations.{State}
use Rattle.version_parts.specs.Counts.{size_of}
use Rattle.version_chain.specs.declared.version.Version.{Version}
use Rattle.version_chain.specs.Chains.{ChainView}
use Rattle.version_chain.specs.Updates.{IsPartCount, IsPartCountFromOldest}
use Rattle.version_chain.proofs.Changed.{exact_count, oldest_count}
use Rattle.version_chain.proofs.Histories.{kept_all}
use Rattle.version_chain.proofs.chain.Chain.parts.Goals as goal

pub returns-clause-all : goal.returns-clause-all
returns-clause-all c = λ none.
    subst (λ (chain : ChainView). IsPartCount chain c.count.result) c.self.view_is
    (exact_count c.self.inside.dropped c.self.inside.parts c.self.inside.stamps.items c.self.invariant c.count.result c.count.ensures
    (λ newest within. c.items_are_placed.ensures.counted newest c.self.inside.parts within) (λ update. c.items_are_placed.ensures.one_more update c.self.inside.parts)
    (ap (λ (chain : ChainView). chain.dropped) c.self.view_is ∙ none))

pub returns-clause-some : goal.returns-clause-some
returns-clause-some c = λ some.
    let gone = ap (λ (chain : ChainView). chain.dropped) c.self.view_is in
    subst (λ (chain : ChainView). IsPartCountFromOldest chain c.count.result) c.self.view_is
    (oldest_count c.self.inside.dropped c.self.inside.parts c.self.inside.stamps.items c.self.invariant c.count.result c.count.ensures
    (λ newest within. c.items_are_placed.ensures.counted newest c.self.inside.parts within) (λ update. c.items_are_placed.ensures.one_more update c.self.inside.parts)
    (λ update. c.items_are_placed.ensures.sizes update (λ other. nat_le other update) c.self.inside.parts (λ other old. le-leb other update old))
    (omega (arith, some, gone)))

pub returns-clause-least : goal.returns-clause-least
returns-clause-least c =
    subst (λ (chain : ChainView). All (λ (version : Version). size_of version.state ≤ c.count.result) chain.kept) c.self.view_is
    (kept_all c.self.inside.parts (λ (state : State). size_of state ≤ c.count.result)
    (λ update. let within = c.items_are_placed.ensures.sizes update (λ other. true) c.self.inside.parts (λ other old. refl) in omega (arith, within, c.count.ensures))
    c.self.inside.dropped c.self.inside.stamps.items)
