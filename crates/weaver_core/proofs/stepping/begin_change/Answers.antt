use Rattle.std.proofs.Common.{◌≡◌, ap, subst, sym}
use Rattle.program_defs.specs.Works.{is_look}
use Rattle.program_defs.specs.declared.script.Step.TheVariants.{Begin}
use Rattle.report_rules.specs.declared.report.StepAnswer.{StepAnswer}
use Rattle.weaver_core.specs.Cores.{MachinesDo, MachinesView}
use Rattle.weaver_core.specs.Splitting.{AreAllByLog}
use Rattle.weaver_core.proofs.AfterSteps.{change-values}
use Rattle.weaver_core.proofs.Results.{either_way}
use Rattle.weaver_core.proofs.SameMachines.{refused-same}
use Rattle.weaver_core.proofs.stepping.begin_change.Goals as goal

pub returns-clause-refused : goal.returns-clause-refused
returns-clause-refused c = refused-same c.begin.result c.args.machines.now c.begin.new.self c.begin.ensures.refused

pub returns-clause-programs : goal.returns-clause-programs
returns-clause-programs c =
    let script = c.args.script.now in
    let r = c.args.request in
    let old = c.args.machines.now in
    let new = c.begin.new.self in
    let are = c.requires.are in
    let change = c.requires.change in
    let stay = c.what_stays.ensures.stay in
    let core = c.what_stays.ensures.core in
    either_way c.begin.result (MachinesDo script (Begin r) old new) (new ≡ old) (AreAllByLog script new.state.account new.values)
    (λ (a : StepAnswer) did. subst (AreAllByLog script new.state.account) (sym c.begin.ensures.values)
    (change-values stay core script old new are r change.request change.request_is old.values c.requires.programs a did (ap is_look change.work_is)))
    (λ is. subst (λ (m : MachinesView). AreAllByLog script m.state.account m.values) (sym is) c.requires.programs)
    c.begin.ensures.done c.begin.ensures.refused
