use Rattle.std.proofs.Common.{ap, ◌∙◌, subst, sym}
use Rattle.order_graph.specs.Chains.{EventChainView, IsLedOn}
use Rattle.order_graph.proofs.chain.Chain.raise.Goals as goal

pub raise_events-requires-clause-earlier : goal.raise_events-requires-clause-earlier
raise_events-requires-clause-earlier c =
    subst (IsLedOn c.args.earlier.now) (sym (c.as_mut_slice.ensures.value ∙ ap (λ (v : EventChainView). v.events) c.self.view_is)) c.requires.earlier

pub raise_events-requires-clause-later : goal.raise_events-requires-clause-later
raise_events-requires-clause-later c =
    subst (IsLedOn c.args.later.now) (sym (c.as_mut_slice.ensures.value ∙ ap (λ (v : EventChainView). v.events) c.self.view_is)) c.requires.later
