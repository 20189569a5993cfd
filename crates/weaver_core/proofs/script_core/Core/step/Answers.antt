use Rattle.std.proofs.Common.{ap, refl, subst, sym, ◌∙◌}
use Rattle.weave_data.proofs.Results.{on_err_map}
use Rattle.report_rules.specs.declared.report.StepAnswer.{StepAnswer}
use Rattle.step_rules.specs.IsCore.{IsStepOf}
use Rattle.step_rules.specs.CoreState.{CoreState}
use Rattle.weaver_core.specs.Cores.{AreOf, AreSameMachines, CoreView, DoesStep, MachinesDo}
use Rattle.weaver_core.proofs.CoreDone.{are-after}
use Rattle.weaver_core.proofs.Results.{either_way, if_ok_map}
use Rattle.weaver_core.proofs.SameMachines.{are-of-same}
use Rattle.weaver_core.proofs.script_core.Core.step.Goals as goal

-- `c.args.self.now.script` is the script inside, by the view

pub step_in-requires : goal.step_in-requires
step_in-requires c = record {
  are = c.self.invariant.0;
  programs = c.self.invariant.1;
  there = subst (λ (v : CoreView). IsStepOf v.script c.args.step.now) (sym c.self.view_is) c.requires.there;
}

-- the law on steps, once for all of them
pub invariant_of-self : goal.invariant_of-self
invariant_of-self c =
    let script = c.self.inside.script in
    let old = c.self.inside.machines in
    let new = c.step_in.new.machines in
    let step = c.args.step.now in
    let there = subst (λ (v : CoreView). IsStepOf v.script step) (sym c.self.view_is) c.requires.there in (
      either_way c.step_in.result (MachinesDo script step old new) (AreSameMachines old new) (AreOf script new)
          (λ (a : StepAnswer) did. are-after script old new step (λ state one. c.steps_keep_the_core.ensures.tried script state one) c.self.invariant.0 there a did)
          (λ same. are-of-same script old new same c.self.invariant.0)
          c.step_in.ensures.done c.step_in.ensures.refused,
      c.step_in.ensures.programs,
    )

pub returns-clause-done : goal.returns-clause-done
returns-clause-done c =
    let script = c.self.inside.script in
    let old = c.self.inside.machines in
    let new = c.step_in.new.machines in
    let step = c.args.step.now in
    let then_core : CoreView = record { script = script; state = new.state } in
    if_ok_map c.step_in.result (MachinesDo script step old new) _
    (λ (a : StepAnswer) did. subst (λ (v : CoreView). DoesStep step v then_core a) c.self.view_is (record { answer_is = did.answer_is; state_is = did.state_is; script_is = refl }))
    c.step_in.ensures.done

pub returns-clause-refused : goal.returns-clause-refused
returns-clause-refused c =
    let script = c.self.inside.script in
    on_err_map c.step_in.result (AreSameMachines c.self.inside.machines c.step_in.new.machines) _ (λ same. ap (λ (state : CoreState). record { script = script; state = state }) same.state ∙ c.self.view_is) c.step_in.ensures.refused
