use Rattle.std.proofs.Common.{subst, sym}
use Rattle.program_defs.specs.declared.script.Step.{Step}
use Rattle.report_rules.specs.declared.report.StepAnswer.{StepAnswer}
use Rattle.weaver_core.specs.Cores.{IsOfMachines, MachinesDo, CanBeGiven}
use Rattle.weaver_core.proofs.Results.{if_ok_map}
use Rattle.weaver_core.specs.Walks.{IsOtherStep}
use Rattle.weaver_core.proofs.machines.Machines.step.Goals as goal

-- In each arm `c.in-V.is` says which step it is. The names of the arms follow the patterns.

pub begin-requires : goal.begin-requires
begin-requires c = subst (CanBeGiven c.args.script.now c.args.self.now) c.in-Begin.is c.requires

pub returns-in-Begin-clause-done : goal.returns-in-Begin-clause-done
returns-in-Begin-clause-done c =
    if_ok_map c.begin.result _ _ (λ (a : StepAnswer) did. subst (λ (s : Step). MachinesDo c.args.script.now s c.args.self.now c.begin.new.self a) (sym c.in-Begin.is) did) c.begin.ensures.done

pub judge-requires : goal.judge-requires
judge-requires c = subst (CanBeGiven c.args.script.now c.args.self.now) c.in-Judge.is c.requires

pub returns-in-Judge-clause-done : goal.returns-in-Judge-clause-done
returns-in-Judge-clause-done c =
    if_ok_map c.judge.result _ _ (λ (a : StepAnswer) did. subst (λ (s : Step). MachinesDo c.args.script.now s c.args.self.now c.judge.new.self a) (sym c.in-Judge.is) did) c.judge.ensures.done

pub send-requires : goal.send-requires
send-requires c = subst (CanBeGiven c.args.script.now c.args.self.now) c.in-Send.is c.requires

pub returns-in-Send-clause-done : goal.returns-in-Send-clause-done
returns-in-Send-clause-done c =
    if_ok_map c.send.result _ _ (λ (a : StepAnswer) did. subst (λ (s : Step). MachinesDo c.args.script.now s c.args.self.now c.send.new.self a) (sym c.in-Send.is) did) c.send.ensures.done

pub say-requires : goal.say-requires
say-requires c = subst (CanBeGiven c.args.script.now c.args.self.now) c.in-Say.is c.requires

pub returns-in-Say-clause-done : goal.returns-in-Say-clause-done
returns-in-Say-clause-done c =
    if_ok_map c.say.result _ _ (λ (a : StepAnswer) did. subst (λ (s : Step). MachinesDo c.args.script.now s c.args.self.now c.say.new.self a) (sym c.in-Say.is) did) c.say.ensures.done

pub hear-requires : goal.hear-requires
hear-requires c = subst (CanBeGiven c.args.script.now c.args.self.now) c.in-Hear.is c.requires

pub returns-in-Hear-clause-done : goal.returns-in-Hear-clause-done
returns-in-Hear-clause-done c =
    if_ok_map c.hear.result _ _ (λ (a : StepAnswer) did. subst (λ (s : Step). MachinesDo c.args.script.now s c.args.self.now c.hear.new.self a) (sym c.in-Hear.is) did) c.hear.ensures.done

pub reply-requires : goal.reply-requires
reply-requires c = subst (CanBeGiven c.args.script.now c.args.self.now) c.in-Reply.is c.requires

pub returns-in-Reply-clause-done : goal.returns-in-Reply-clause-done
returns-in-Reply-clause-done c =
    if_ok_map c.reply.result _ _ (λ (a : StepAnswer) did. subst (λ (s : Step). MachinesDo c.args.script.now s c.args.self.now c.reply.new.self a) (sym c.in-Reply.is) did) c.reply.ensures.done

pub raise-requires : goal.raise-requires
raise-requires c = subst (CanBeGiven c.args.script.now c.args.self.now) c.in-Epoch.is c.requires

pub returns-in-Epoch-clause-done : goal.returns-in-Epoch-clause-done
returns-in-Epoch-clause-done c =
    if_ok_map c.raise.result _ _ (λ (a : StepAnswer) did. subst (λ (s : Step). MachinesDo c.args.script.now s c.args.self.now c.raise.new.self a) (sym c.in-Epoch.is) did) c.raise.ensures.done

pub restart-requires : goal.restart-requires
restart-requires c = subst (CanBeGiven c.args.script.now c.args.self.now) c.in-Restart.is c.requires

pub returns-in-Restart-clause-done : goal.returns-in-Restart-clause-done
returns-in-Restart-clause-done c =
    if_ok_map c.restart.result _ _ (λ (a : StepAnswer) did. subst (λ (s : Step). MachinesDo c.args.script.now s c.args.self.now c.restart.new.self a) (sym c.in-Restart.is) did) c.restart.ensures.done

pub nop-requires : goal.nop-requires
nop-requires c = subst (CanBeGiven c.args.script.now c.args.self.now) c.in-Nop.is c.requires

pub returns-in-Nop-clause-done : goal.returns-in-Nop-clause-done
returns-in-Nop-clause-done c =
    if_ok_map c.nop.result _ _ (λ (a : StepAnswer) did. subst (λ (s : Step). MachinesDo c.args.script.now s c.args.self.now c.nop.new.self a) (sym c.in-Nop.is) did) c.nop.ensures.done

pub deliver-requires : goal.deliver-requires
deliver-requires c = subst (CanBeGiven c.args.script.now c.args.self.now) c.in-Deliver.is c.requires

pub returns-in-Deliver-clause-done : goal.returns-in-Deliver-clause-done
returns-in-Deliver-clause-done c =
    if_ok_map c.deliver.result _ _ (λ (a : StepAnswer) did. subst (λ (s : Step). MachinesDo c.args.script.now s c.args.self.now c.deliver.new.self a) (sym c.in-Deliver.is) did) c.deliver.ensures.done

pub apply-requires : goal.apply-requires
apply-requires c = subst (CanBeGiven c.args.script.now c.args.self.now) c.in-Apply.is c.requires

pub returns-in-Apply-clause-done : goal.returns-in-Apply-clause-done
returns-in-Apply-clause-done c =
    if_ok_map c.apply.result _ _ (λ (a : StepAnswer) did. subst (λ (s : Step). MachinesDo c.args.script.now s c.args.self.now c.apply.new.self a) (sym c.in-Apply.is) did) c.apply.ensures.done

pub collect-requires : goal.collect-requires
collect-requires c = subst (CanBeGiven c.args.script.now c.args.self.now) c.in-Collect.is c.requires

pub returns-in-Collect-clause-done : goal.returns-in-Collect-clause-done
returns-in-Collect-clause-done c =
    if_ok_map c.collect.result _ _ (λ (a : StepAnswer) did. subst (λ (s : Step). MachinesDo c.args.script.now s c.args.self.now c.collect.new.self a) (sym c.in-Collect.is) did) c.collect.ensures.done

-- a visit is not of the machines alone
pub unreachable-requires : goal.unreachable-requires
unreachable-requires c = subst (IsOfMachines c.args.script.now) c.in-Visit.is c.requires.alone

-- The values of the sessions stay.

pub returns-in-Judge-clause-values : goal.returns-in-Judge-clause-values
returns-in-Judge-clause-values c other = c.judge.ensures.values

pub returns-in-Send-clause-values : goal.returns-in-Send-clause-values
returns-in-Send-clause-values c other = c.send.ensures.values

pub returns-in-Say-clause-values : goal.returns-in-Say-clause-values
returns-in-Say-clause-values c other = c.say.ensures.values

pub returns-in-Hear-clause-values : goal.returns-in-Hear-clause-values
returns-in-Hear-clause-values c other = c.hear.ensures.values

pub returns-in-Epoch-clause-values : goal.returns-in-Epoch-clause-values
returns-in-Epoch-clause-values c other = c.raise.ensures.values

pub returns-in-Restart-clause-values : goal.returns-in-Restart-clause-values
returns-in-Restart-clause-values c other = c.restart.ensures.values

pub returns-in-Nop-clause-values : goal.returns-in-Nop-clause-values
returns-in-Nop-clause-values c other = c.nop.ensures.values

pub returns-in-Deliver-clause-values : goal.returns-in-Deliver-clause-values
returns-in-Deliver-clause-values c other = c.deliver.ensures.values

pub returns-in-Apply-clause-values : goal.returns-in-Apply-clause-values
returns-in-Apply-clause-values c other = c.apply.ensures.values

pub returns-in-Collect-clause-values : goal.returns-in-Collect-clause-values
returns-in-Collect-clause-values c other = c.collect.ensures.values

pub returns-in-Begin-clause-values : goal.returns-in-Begin-clause-values
returns-in-Begin-clause-values c other = c.begin.ensures.values

pub returns-in-Reply-clause-values : goal.returns-in-Reply-clause-values
returns-in-Reply-clause-values c other = absurd (subst IsOtherStep c.in-Reply.is other)
