use Rattle.std.proofs.Common.{◌≡◌, Some, subst}
use Rattle.path_program.specs.AnyPrograms.{HasRead, next_read}
use Rattle.path_program.proofs.any.AnyProgramNodeProgram.see.Goals as goal

pub returns-in-Reach-clause-reads : goal.returns-in-Reach-clause-reads
returns-in-Reach-clause-reads c = λ v reads next h. c.see-in-Reach.ensures.reads v reads (subst (λ walk. next_read walk ≡ Some v) c.in-Reach.is next) (subst (λ walk. HasRead walk reads) c.in-Reach.is h)

pub returns-in-Price-clause-reads : goal.returns-in-Price-clause-reads
returns-in-Price-clause-reads c = λ v reads next h. c.see-in-Price.ensures.reads v reads (subst (λ walk. next_read walk ≡ Some v) c.in-Price.is next) (subst (λ walk. HasRead walk reads) c.in-Price.is h)
