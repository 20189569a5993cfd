use Rattle.std.proofs.Common.{◌≡◌, sym, ◌∙◌, subst, Some, ◌∷◌, option_copied}
use Rattle.program_defs.specs.Searching.{HasSearched}
use Rattle.program_defs.proofs.Searched.{seen}
use Rattle.program_defs.proofs.search.Search.see.Goals as goal

pub returns-clause-reads : goal.returns-clause-reads
returns-clause-reads c = λ program v reads next h.
    let one : Some c.in-Some.v ≡ Some v = sym c.in-Some.is ∙ c.next.ensures ∙ next in
    let same : c.in-Some.v ≡ v = cc in
    subst (λ w. HasSearched program c.go_on.new.self ((w, option_copied c.args.state) ∷ reads)) same
    (seen program c.args.self.now c.add.new.self c.go_on.new.self c.in-Some.v (option_copied c.args.state) reads (sym c.next.ensures ∙ c.in-Some.is) h c.add.ensures c.go_on.ensures.onward)
