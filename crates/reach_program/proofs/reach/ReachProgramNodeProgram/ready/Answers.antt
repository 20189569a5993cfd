use Rattle.std.proofs.Common.{sym, subst}
use Rattle.program_defs.specs.Searching.{HasSearched}
use Rattle.reach_program.specs.Reach.{HasReached, program_asked}
use Rattle.reach_program.proofs.reach.ReachProgramNodeProgram.ready.Goals as goal

pub returns-clause-reads : goal.returns-clause-reads
returns-clause-reads c = λ reads h.
    let to = c.args.self.now.goal in
    let before : HasReached to c.deref_mut.result.now reads = subst (λ search. HasReached to search reads) (sym c.deref_mut.ensures.value) h in
    subst (λ aim. HasSearched (program_asked to aim) c.reserve.new.self reads) (sym c.reserve.ensures.same.aim) (c.searches_are_right.ensures.same _ _ _ reads c.reserve.ensures.same before)
