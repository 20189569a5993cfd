use Rattle.std.proofs.Common.{◌∷◌, Contains, ◌⊎◌, sym, ap, subst, ◌∙◌}
use Rattle.std.specs.Prelude.{option_copied}
use Rattle.vector_stamp.specs.declared.clock.Stamp.{Stamp}
use Rattle.version_chain.specs.Chains.{ChainView, stamps_of_versions}
use Rattle.version_chain.specs.Views.{has_unordered}
use Rattle.version_graph.specs.Graphs.{chain_or_new}
use Rattle.shard_node.proofs.shard.see.Goals as goal

pub returns-clause-known : goal.returns-clause-known
returns-clause-known g c event has =
    subst (λ (chain : ChainView). Contains (g.J.Judge.known c.args.judge.now) event ⊎ Contains {X = Stamp} (c.args.stamp ∷ stamps_of_versions chain.kept) event)
    (ap chain_or_new (sym (ap option_copied c.in-Some.is) ∙ c.chain.ensures)) (c.view_at.ensures.known event has)

pub returns-clause-not_asked : goal.returns-clause-not_asked
returns-clause-not_asked g c none =
    c.view_at.ensures.not_asked (ap (λ (chain : ChainView). has_unordered c.args.stamp (stamps_of_versions chain.kept)) (ap chain_or_new (sym (ap option_copied c.in-Some.is) ∙ c.chain.ensures)) ∙ none)
