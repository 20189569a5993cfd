use Rattle.std.proofs.Common.{◌≡◌, ◌∷◌, List, Contains, ◌⊎◌, ap, subst, ◌∙◌}
use Rattle.std.specs.Prelude.{IfOk}
use Rattle.vector_stamp.specs.declared.clock.Stamp.{Stamp}
use Rattle.version_chain.specs.declared.version.Version.{Version}
use Rattle.version_chain.specs.Chains.{ChainView, stamps_of_versions}
use Rattle.version_chain.specs.Keeping.{kept_from}
use Rattle.version_chain.specs.Views.{has_unordered, view_of}
use Rattle.version_chain.proofs.LookBack.{base_seen}
use Rattle.version_chain.proofs.chain.Chain.view_at.Goals as goal

pub returns-clause-base : goal.returns-clause-base
returns-clause-base g c =
    let kept_is : c.as_slice.result.now ≡ c.self.inside.stamps.items = c.as_slice.ensures.value in
    base_seen (g.J.Judge.pairs c.args.judge.now) c.args.stamp c.args.self.now c.look_back.result
    (subst (λ (chain : ChainView). IfOk c.look_back.result (λ view. view ≡ view_of (g.J.Judge.pairs c.args.judge.now) c.args.stamp chain))
    (ap (λ (stamps : List Stamp). record { dropped = c.self.inside.dropped; kept = kept_from c.self.inside.dropped c.self.inside.parts stamps }) kept_is ∙ c.self.view_is) c.look_back.ensures.view)
    c.requires.base

pub returns-clause-known : goal.returns-clause-known
returns-clause-known g c = λ event has.
    subst (λ (versions : List Version). Contains (g.J.Judge.known c.args.judge.now) event ⊎ Contains (c.args.stamp ∷ stamps_of_versions versions) event)
    (ap (kept_from c.self.inside.dropped c.self.inside.parts) c.as_slice.ensures.value ∙ ap (λ (chain : ChainView). chain.kept) c.self.view_is) (c.look_back.ensures.known event has)

pub returns-clause-not_asked : goal.returns-clause-not_asked
returns-clause-not_asked g c = λ none.
    c.look_back.ensures.not_asked (ap (λ (versions : List Version). has_unordered c.args.stamp (stamps_of_versions versions)) (ap (kept_from c.self.inside.dropped c.self.inside.parts) c.as_slice.ensures.value ∙ ap (λ (chain : ChainView). chain.kept) c.self.view_is) ∙ none)
