use Rattle.std.proofs.Common.{◌≡◌, ◌∙◌, sym, subst}
use Rattle.program_defs.specs.Visits.{next_visit}
use Rattle.path_program.specs.Path.{HasPathed, path_asked}
use Rattle.path_program.proofs.path.PathProgramNodeProgram.next_vertex.Goals as goal

pub returns-clause-visit : goal.returns-clause-visit
returns-clause-visit c = λ reads h.
    let self = c.args.self.now in
    let read = subst (λ search. HasPathed self.to self.bound search reads) (sym c.deref.ensures) h in
    subst (λ search. c.next.result ≡ next_visit reads (path_asked self.to self.bound search)) c.deref.ensures
    (c.next.ensures ∙ c.path_searches_are_right.ensures.next _ _ reads read)
