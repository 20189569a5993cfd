use Rattle.std.proofs.Common.{◌≡◌, refl, subst, sym}
use Rattle.program_defs.specs.declared.script.Step.TheVariants.{Reply}
use Rattle.report_rules.specs.declared.report.StepAnswer.{StepAnswer}
use Rattle.weaver_core.specs.Cores.{MachinesDo, MachinesView}
use Rattle.weaver_core.specs.Splitting.{AreAllByLog, RepliesToProgram}
use Rattle.weaver_core.proofs.AfterSteps.{program-replied}
use Rattle.weaver_core.proofs.Results.{either_two}
use Rattle.weaver_core.proofs.SameMachines.{refused-same}
use Rattle.weaver_core.proofs.stepping.reply_to_program.Goals as goal

pub returns-clause-refused : goal.returns-clause-refused
returns-clause-refused c = refused-same c.finish.result c.args.machines.now c.finish.new.self c.finish.ensures.refused

pub returns-clause-programs : goal.returns-clause-programs
returns-clause-programs c =
    let script = c.args.script.now in
    let r = c.args.request in
    let old = c.args.machines.now in
    let new = c.finish.new.self in
    let are = c.requires.are in
    let look = c.requires.look in
    let stay = c.what_stays.ensures.stay in
    let core = c.what_stays.ensures.core in
    either_two c.finish.result (MachinesDo script (Reply r) old new) (RepliesToProgram script r old new) (new ≡ old) (AreAllByLog script new.state.account new.values)
    (λ (a : StepAnswer) did replies. program-replied stay core script old new are r look.look.request look.look.request_is old.values c.requires.programs a did look.program look.look.work_is c.order_of_reads_is_free.ensures.answer refl (replies look.look.request look.look.request_is))
    (λ is. subst (λ (m : MachinesView). AreAllByLog script m.state.account m.values) (sym is) c.requires.programs)
    c.finish.ensures.done c.finish.ensures.values c.finish.ensures.refused
