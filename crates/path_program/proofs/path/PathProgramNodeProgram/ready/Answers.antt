use Rattle.std.proofs.Common.{sym, subst}
use Rattle.program_defs.specs.LeastWalks.{HasWalked}
use Rattle.program_defs.specs.Walks.{filter_in}
use Rattle.program_defs.specs.declared.program.Program.TheVariants.{Path}
use Rattle.path_program.specs.Path.{HasPathed}
use Rattle.path_program.proofs.path.PathProgramNodeProgram.ready.Goals as goal

pub returns-clause-reads : goal.returns-clause-reads
returns-clause-reads c = λ reads h.
    let to = c.args.self.now.to in
    let bound = c.args.self.now.bound in
    let before = subst (λ search. HasPathed to bound search reads) (sym c.deref_mut.ensures.value) h in
    subst (λ aim. HasWalked (Path aim.from to bound (filter_in aim.pass)) c.reserve.new.self reads) (sym c.reserve.ensures.same.search.aim) (c.path_searches_are_right.ensures.same _ _ _ reads c.reserve.ensures.same before)
