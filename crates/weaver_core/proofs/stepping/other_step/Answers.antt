use Rattle.std.proofs.Common.{◌≡◌, List, subst, sym}
use Rattle.report_rules.specs.declared.report.StepAnswer.{StepAnswer}
use Rattle.weaver_core.specs.Sessions.{SessionValues}
use Rattle.weaver_core.specs.Cores.{MachinesDo, MachinesView}
use Rattle.weaver_core.specs.Splitting.{AreAllByLog}
use Rattle.weaver_core.proofs.OtherSteps.{other-stay}
use Rattle.weaver_core.proofs.Results.{either_way}
use Rattle.weaver_core.proofs.SameMachines.{refused-same}
use Rattle.weaver_core.proofs.stepping.other_step.Goals as goal

pub returns-clause-refused : goal.returns-clause-refused
returns-clause-refused c = refused-same c.step.result c.args.machines.now c.step.new.self c.step.ensures.refused

pub returns-clause-programs : goal.returns-clause-programs
returns-clause-programs c =
    let script = c.args.script.now in
    let old = c.args.machines.now in
    let new = c.step.new.self in
    let step = c.args.step.now in
    either_way c.step.result (MachinesDo script step old new) (new ≡ old) (AreAllByLog script new.state.account new.values)
    (λ (a : StepAnswer) did. subst (λ (values : List SessionValues). AreAllByLog script new.state.account values) (sym (c.step.ensures.values c.requires.other))
    (other-stay c.what_stays.ensures.stay c.what_stays.ensures.core script old new step c.requires.are c.requires.there c.requires.other a did old.values c.requires.programs))
    (λ is. subst (λ (m : MachinesView). AreAllByLog script m.state.account m.values) (sym is) c.requires.programs)
    c.step.ensures.done c.step.ensures.refused
