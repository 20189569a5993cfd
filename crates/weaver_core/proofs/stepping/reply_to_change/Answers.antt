use Rattle.std.proofs.Common.{◌≡◌, ap, subst, sym}
use Rattle.program_defs.specs.Works.{is_change}
use Rattle.program_defs.specs.declared.script.Step.TheVariants.{Reply}
use Rattle.report_rules.specs.declared.report.StepAnswer.{StepAnswer}
use Rattle.weaver_core.specs.Cores.{MachinesDo, MachinesView, RepliesToChange}
use Rattle.weaver_core.specs.Splitting.{AreAllByLog}
use Rattle.weaver_core.proofs.AfterSteps.{change-replied}
use Rattle.weaver_core.proofs.Results.{either_two}
use Rattle.weaver_core.proofs.SameMachines.{refused-same}
use Rattle.weaver_core.proofs.stepping.reply_to_change.Goals as goal

pub returns-clause-refused : goal.returns-clause-refused
returns-clause-refused c = refused-same c.reply.result c.args.machines.now c.reply.new.self c.reply.ensures.refused

pub returns-clause-programs : goal.returns-clause-programs
returns-clause-programs c =
    let script = c.args.script.now in
    let r = c.args.request in
    let old = c.args.machines.now in
    let new = c.reply.new.self in
    let are = c.requires.are in
    let change = c.requires.change in
    let stay = c.what_stays.ensures.stay in
    let core = c.what_stays.ensures.core in
    either_two c.reply.result (MachinesDo script (Reply r) old new) (RepliesToChange script r old new) (new ≡ old) (AreAllByLog script new.state.account new.values)
    (λ (a : StepAnswer) did replies. change-replied stay core script old new are r change.request change.request_is old.values c.requires.programs a did (ap is_change change.work_is) (replies change.request change.request_is))
    (λ is. subst (λ (m : MachinesView). AreAllByLog script m.state.account m.values) (sym is) c.requires.programs)
    c.reply.ensures.done c.reply.ensures.values c.reply.ensures.refused
