use Rattle.std.proofs.Common.{sym, subst}
use Rattle.program_defs.specs.PlainAnswer.{IsPlainAnswer}
use Rattle.program_defs.specs.declared.program.Program.TheVariants.{Reach, Around}
use Rattle.program_defs.specs.declared.program.Answer.TheVariants.{Reached, Found}
use Rattle.program_defs.specs.Visits.{graph_read}
use Rattle.program_defs.specs.Walks.{filter_in}
use Rattle.reach_program.specs.Reach.{program_asked, HasReached}
use Rattle.reach_program.proofs.reach.ReachProgramNodeProgram.outcome.Goals as goal

pub returns-in-To : goal.returns-in-To
returns-in-To c = λ reads h.
    let walk = c.deref.result.now in
    let read = subst (λ search. HasReached c.args.self.now.goal search reads) (sym c.deref.ensures) h in
    subst (λ search. IsPlainAnswer (graph_read reads) (program_asked c.args.self.now.goal search.aim) (Reached c.is_present.result)) c.deref.ensures
    (subst (λ g. HasReached g walk reads → IsPlainAnswer (graph_read reads) (program_asked g walk.aim) (Reached c.is_present.result)) (sym c.in-To.is)
    (λ k. subst (λ b. IsPlainAnswer (graph_read reads) (Reach walk.aim.from c.in-To.to (filter_in walk.aim.pass)) (Reached b)) (sym c.is_present.ensures) (c.searches_are_right.ensures.reach walk.aim.from c.in-To.to (filter_in walk.aim.pass) walk reads k)) read)

pub returns-in_ok-present-in-Within : goal.returns-in_ok-present-in-Within
returns-in_ok-present-in-Within c = λ reads h.
    let walk = c.deref-in-Within.result.now in
    let bound = c.in-Within.field-0 in
    let read = subst (λ search. HasReached c.args.self.now.goal search reads) (sym c.deref-in-Within.ensures) h in
    subst (λ search. IsPlainAnswer (graph_read reads) (program_asked c.args.self.now.goal search.aim) (Found c.in_ok-present-in-Within.field-0)) c.deref-in-Within.ensures
    (subst (λ g. HasReached g walk reads → IsPlainAnswer (graph_read reads) (program_asked g walk.aim) (Found c.in_ok-present-in-Within.field-0)) (sym c.in-Within.is)
    (λ k. subst (λ vs. IsPlainAnswer (graph_read reads) (Around walk.aim.from bound (filter_in walk.aim.pass)) (Found vs)) (sym (c.in_ok-present-in-Within.ensures k.found.once)) (c.searches_are_right.ensures.around walk.aim.from bound (filter_in walk.aim.pass) walk reads k)) read)
