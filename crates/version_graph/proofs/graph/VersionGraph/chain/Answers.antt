use Rattle.std.proofs.Common.{None, Some, sym, ap, ◌∙◌}
use Rattle.std.specs.Prelude.{option_copied}
use Rattle.version_graph.proofs.Chains.{chain_found, without_updates, having_updates}
use Rattle.version_graph.proofs.graph.VersionGraph.chain.Goals as goal

pub returns-in_default : goal.returns-in_default
returns-in_default c = chain_found c.args.v c.self.inside.table.entries c.args.self.now None c.self.view_is (sym c.get.ensures.value ∙ ap option_copied c.in_default.is)

pub returns-then-count-eq0 : goal.returns-then-count-eq0
returns-then-count-eq0 c =
    sym (without_updates c.in-Some.chain.now (sym c.count.ensures ∙ c.if-count-eq0.true)) ∙ chain_found c.args.v c.self.inside.table.entries c.args.self.now (Some c.in-Some.chain.now) c.self.view_is (sym c.get.ensures.value ∙ ap option_copied c.in-Some.is)

pub returns : goal.returns
returns c =
    sym (having_updates c.in-Some.chain.now (λ none. c.if-count-eq0.false (c.count.ensures ∙ none))) ∙ chain_found c.args.v c.self.inside.table.entries c.args.self.now (Some c.in-Some.chain.now) c.self.view_is (sym c.get.ensures.value ∙ ap option_copied c.in-Some.is)
