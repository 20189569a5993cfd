use Rattle.std.proofs.Common.{◌≡◌, ◌∙◌, sym, subst}
use Rattle.weave_data.proofs.Results.{on_err_map}
use Rattle.program_defs.specs.declared.script.Step.TheVariants.{Epoch}
use Rattle.report_rules.specs.declared.report.StepAnswer.{StepAnswer}
use Rattle.weaver_core.specs.Clocks.{Raises}
use Rattle.weaver_core.specs.Cores.{MachinesDo, MachinesView, CanBeGiven, machines_of}
use Rattle.weaver_core.proofs.ClockDone.{raise-done}
use Rattle.weaver_core.proofs.Resting.{gate-there, same-gates}
use Rattle.weaver_core.proofs.Results.{if_ok_map}
use Rattle.weaver_core.proofs.machines.Machines.raise.Goals as goal

pub raise_in-requires : goal.raise_in-requires
raise_in-requires c =
    let may = subst (λ (v : MachinesView). CanBeGiven c.args.script.now v (Epoch c.args.gate c.args.epoch)) (sym c.self.view_is) c.requires in
    gate-there c.args.script.now _ c.args.gate may.are.frame may.there.0

pub returns-clause-done : goal.returns-clause-done
returns-clause-done c =
    let m = c.self.inside in
    let new = c.raise_in.new.gates in
    if_ok_map c.raise_in.result (Raises m.gates new c.args.gate c.args.epoch) _
    (λ (a : StepAnswer) did. subst (λ (v : MachinesView). MachinesDo c.args.script.now (Epoch c.args.gate c.args.epoch) v (machines_of new m.store m.oracle m.shards m.clients m.notices.items) a) c.self.view_is
    (raise-done c.args.script.now m.gates m.store m.oracle m.shards m.clients m.notices.items new c.args.gate c.args.epoch a did))
    c.raise_in.ensures.raises

pub returns-clause-refused : goal.returns-clause-refused
returns-clause-refused c =
    let m = c.self.inside in
    on_err_map c.raise_in.result (c.raise_in.new.gates ≡ m.gates) _ (λ is. same-gates m.gates m.store m.oracle m.shards m.clients m.notices.items c.raise_in.new.gates is ∙ c.self.view_is) c.raise_in.ensures.refused
