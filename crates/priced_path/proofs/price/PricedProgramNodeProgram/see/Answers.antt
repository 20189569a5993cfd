use Rattle.std.proofs.Common.{◌≡◌, ◌∷◌, sym, ap, subst, ◌∙◌, Some}
use Rattle.std.proofs.lemmas.Option.{same_Some}
use Rattle.weave_data.specs.declared.name.Name.{Name}
use Rattle.program_defs.specs.Searching.{next_of}
use Rattle.priced_path.specs.Price.{PriceState, HasPriced}
use Rattle.priced_path.proofs.Pricing.{sees}
use Rattle.priced_path.proofs.price.PricedProgramNodeProgram.see.Goals as goal

pub invariant_of-self : goal.invariant_of-self
invariant_of-self c =
    let inside = c.self.inside in
    let v = c.in-Some.v in
    let asked : next_of inside.search.value ≡ Some v = ap next_of (sym c.deref.ensures) ∙ sym c.next.ensures ∙ c.in-Some.is in (
      (v, c.args.state) ∷ c.self.invariant.0,
      sees c.searches_are_right.ensures.next inside.to inside.key inside.search.value c.see.new.self inside.edges.items c.keep.new.edges.items v c.args.state asked c.deref_mut.result.now _ _ c.deref_mut.ensures.value c.as_ref-2.ensures.value c.as_ref.ensures.value
          c.see.ensures.reads c.see.ensures.aim c.keep.ensures c.self.invariant.0 c.self.invariant.1,
    )

pub returns-clause-reads : goal.returns-clause-reads
returns-clause-reads c = λ w reads next h.
    let inside = c.self.inside in
    let v = c.in-Some.v in
    let asked : next_of inside.search.value ≡ Some v = ap next_of (sym c.deref.ensures) ∙ sym c.next.ensures ∙ c.in-Some.is in
    let was = subst (λ (walk : PriceState). HasPriced walk.to walk.key walk.search walk.edges reads) (sym c.self.view_is) h in
    let same : v ≡ w = same_Some v w (sym asked ∙ ap (λ (walk : PriceState). next_of walk.search) c.self.view_is ∙ next) in
    subst (λ (u : Name). HasPriced inside.to inside.key c.see.new.self c.keep.new.edges.items ((u, c.args.state) ∷ reads)) same
    (sees c.searches_are_right.ensures.next inside.to inside.key inside.search.value c.see.new.self inside.edges.items c.keep.new.edges.items v c.args.state asked c.deref_mut.result.now _ _ c.deref_mut.ensures.value c.as_ref-2.ensures.value c.as_ref.ensures.value
    c.see.ensures.reads c.see.ensures.aim c.keep.ensures reads was)
