use Rattle.std.proofs.Common.{refl, sym, subst}
use Rattle.program_defs.specs.Searching.{SearchState, SameReached}
use Rattle.priced_path.specs.Price.{PriceState, HasPriced}
use Rattle.priced_path.proofs.Pricing.{priced-still}
use Rattle.priced_path.proofs.price.PricedProgramNodeProgram.ready.Goals as goal

pub invariant_of-self : goal.invariant_of-self
invariant_of-self c =
    let inside = c.self.inside in
    let same = subst (λ (search : SearchState). SameReached search c.reserve.new.self) c.deref_mut.ensures.value c.reserve.ensures.same in
    (c.self.invariant.0, priced-still c.searches_are_right.ensures.same inside.to inside.key inside.search.value c.reserve.new.self same inside.edges.items inside.edges.items refl c.self.invariant.0 c.self.invariant.1)

pub returns-in_err-reserve-clause-reads : goal.returns-in_err-reserve-clause-reads
returns-in_err-reserve-clause-reads c = λ reads h.
    let inside = c.self.inside in
    let same = subst (λ (search : SearchState). SameReached search c.reserve.new.self) c.deref_mut.ensures.value c.reserve.ensures.same in
    priced-still c.searches_are_right.ensures.same inside.to inside.key inside.search.value c.reserve.new.self same inside.edges.items inside.edges.items refl reads (subst (λ (walk : PriceState). HasPriced walk.to walk.key walk.search walk.edges reads) (sym c.self.view_is) h)

pub invariant_of-self-in_err-reserve-2 : goal.invariant_of-self-in_err-reserve-2
invariant_of-self-in_err-reserve-2 c =
    let inside = c.self.inside in
    let same = subst (λ (search : SearchState). SameReached search c.reserve.new.self) c.deref_mut.ensures.value c.reserve.ensures.same in
    (c.self.invariant.0, priced-still c.searches_are_right.ensures.same inside.to inside.key inside.search.value c.reserve.new.self same inside.edges.items c.reserve-2.new.self.items c.reserve-2.ensures.items c.self.invariant.0 c.self.invariant.1)

pub returns-in_err-reserve-2-clause-reads : goal.returns-in_err-reserve-2-clause-reads
returns-in_err-reserve-2-clause-reads c = λ reads h.
    let inside = c.self.inside in
    let same = subst (λ (search : SearchState). SameReached search c.reserve.new.self) c.deref_mut.ensures.value c.reserve.ensures.same in
    priced-still c.searches_are_right.ensures.same inside.to inside.key inside.search.value c.reserve.new.self same inside.edges.items c.reserve-2.new.self.items c.reserve-2.ensures.items reads (subst (λ (walk : PriceState). HasPriced walk.to walk.key walk.search walk.edges reads) (sym c.self.view_is) h)

pub invariant_of-self-2 : goal.invariant_of-self-2
invariant_of-self-2 c =
    let inside = c.self.inside in
    let same = subst (λ (search : SearchState). SameReached search c.reserve.new.self) c.deref_mut.ensures.value c.reserve.ensures.same in
    (c.self.invariant.0, priced-still c.searches_are_right.ensures.same inside.to inside.key inside.search.value c.reserve.new.self same inside.edges.items c.reserve-2.new.self.items c.reserve-2.ensures.items c.self.invariant.0 c.self.invariant.1)

pub returns-clause-reads : goal.returns-clause-reads
returns-clause-reads c = λ reads h.
    let inside = c.self.inside in
    let same = subst (λ (search : SearchState). SameReached search c.reserve.new.self) c.deref_mut.ensures.value c.reserve.ensures.same in
    priced-still c.searches_are_right.ensures.same inside.to inside.key inside.search.value c.reserve.new.self same inside.edges.items c.reserve-2.new.self.items c.reserve-2.ensures.items reads (subst (λ (walk : PriceState). HasPriced walk.to walk.key walk.search walk.edges reads) (sym c.self.view_is) h)
