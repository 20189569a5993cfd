use Rattle.std.proofs.Common.{◌≡◌, sym, ap, subst, ◌∙◌, List, IfOk}
use Rattle.weave_data.specs.declared.name.Name.{Name}
use Rattle.graph_ops.specs.Operations.{State}
use Rattle.program_defs.specs.PlainAnswer.{IsPlainAnswer}
use Rattle.program_defs.specs.Searching.{SearchState, IsOnce}
use Rattle.program_defs.specs.Visits.{as_set, graph_read}
use Rattle.priced_path.specs.Kept.{ArePriced, IsAnswerOver}
use Rattle.priced_path.specs.Price.{PriceState, price_asked, HasPriced, IsPricing}
use Rattle.priced_path.specs.declared.kept_edge.KeptEdge.{KeptEdge}
use Rattle.priced_path.proofs.Pricing.{pricing-priced, priced-outcome}
use Rattle.priced_path.proofs.price.PricedProgramNodeProgram.outcome.Goals as goal

pub answer_of-requires-clause-priced : goal.answer_of-requires-clause-priced
answer_of-requires-clause-priced c =
    let inside = c.self.inside in
    subst (λ (edges : List KeptEdge). ArePriced edges) (sym c.as_slice-2.ensures.value) (pricing-priced inside.to inside.key inside.search.value inside.edges.items c.self.invariant)

pub returns : goal.returns
returns c =
    let inside = c.self.inside in
    let search = inside.search.value in
    let over = subst (λ (edges : List KeptEdge). IfOk c.answer_of.result (λ answer. IsAnswerOver c.as_slice.result.now edges c.start-from.result inside.to answer)) c.as_slice-2.ensures.value c.answer_of.ensures in
    let start : c.start-from.result ≡ search.aim.from = c.start-from.ensures ∙ ap (λ (s : SearchState). s.aim.from) c.deref-2.ensures in
    let all = λ (h : IsPricing inside.to inside.key search inside.edges.items).
    c.as_slice.ensures
    ∙ c.in_ok-vertices.ensures (subst (λ (s : SearchState). IsOnce s.present) (sym c.deref.ensures) (c.searches_find_the_present.ensures.once (price_asked inside.to inside.key search) search h.0 h.1.searched))
    ∙ ap (λ (s : SearchState). as_set s.present) c.deref.ensures in
    subst (λ (walk : PriceState). IfOk c.answer_of.result (λ answer. (reads : List (Name × State)) → HasPriced walk.to walk.key walk.search walk.edges reads → IsPlainAnswer (graph_read reads) (price_asked walk.to walk.key walk.search) answer)) c.self.view_is
    (priced-outcome c.searches_find_the_present.ensures.members inside.to inside.key c.start-from.result search inside.edges.items c.as_slice.result.now start all c.answer_of.result over)
