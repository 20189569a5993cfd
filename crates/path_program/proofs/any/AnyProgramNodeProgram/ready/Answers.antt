use Rattle.std.proofs.Common.{subst}
use Rattle.path_program.specs.AnyPrograms.{HasRead}
use Rattle.path_program.proofs.any.AnyProgramNodeProgram.ready.Goals as goal

pub returns-in-Reach-clause-reads : goal.returns-in-Reach-clause-reads
returns-in-Reach-clause-reads c = λ reads h. c.ready-in-Reach.ensures.reads reads (subst (λ walk. HasRead walk reads) c.in-Reach.is h)

pub returns-in-Price-clause-reads : goal.returns-in-Price-clause-reads
returns-in-Price-clause-reads c = λ reads h. c.ready-in-Price.ensures.reads reads (subst (λ walk. HasRead walk reads) c.in-Price.is h)
