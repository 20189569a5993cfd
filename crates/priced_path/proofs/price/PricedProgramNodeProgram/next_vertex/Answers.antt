use Rattle.std.proofs.Common.{ap, ◌∙◌}
use Rattle.program_defs.specs.Searching.{next_of}
use Rattle.priced_path.specs.Price.{PriceState, price_asked}
use Rattle.priced_path.proofs.price.PricedProgramNodeProgram.next_vertex.Goals as goal

pub returns-clause-visit : goal.returns-clause-visit
returns-clause-visit c = λ reads h.
    let now = c.args.self.now in
    let same = c.deref.ensures ∙ ap (λ (walk : PriceState). walk.search) c.self.view_is in
    c.next.ensures ∙ ap next_of same ∙ c.searches_are_right.ensures.next (price_asked now.to now.key now.search) now.search reads h.searched
