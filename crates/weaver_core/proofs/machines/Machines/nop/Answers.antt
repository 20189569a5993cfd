use Rattle.std.proofs.Common.{◌≡◌, ◌∙◌, sym, subst}
use Rattle.weave_data.proofs.Results.{on_err_map}
use Rattle.program_defs.specs.declared.script.Step.TheVariants.{Nop}
use Rattle.report_rules.specs.declared.report.StepAnswer.{StepAnswer}
use Rattle.weaver_core.specs.Cores.{MachinesDo, MachinesView, CanBeGiven, machines_of}
use Rattle.weaver_core.specs.Messages.{DoesNop}
use Rattle.weaver_core.proofs.MessagesDone.{nop-done}
use Rattle.weaver_core.proofs.Resting.{gate-there, receiver-there, same-gates}
use Rattle.weaver_core.proofs.Results.{if_ok_map}
use Rattle.weaver_core.proofs.machines.Machines.nop.Goals as goal

pub nop_in-requires : goal.nop_in-requires
nop_in-requires c =
    let script = c.args.script.now in
    let may = subst (λ (v : MachinesView). CanBeGiven script v (Nop c.args.gate c.args.shard)) (sym c.self.view_is) c.requires in
    record { there = gate-there script _ c.args.gate may.are.frame may.there.0; shard = receiver-there script _ c.args.shard may.are.frame may.there.1 }

pub returns-clause-done : goal.returns-clause-done
returns-clause-done c =
    let m = c.self.inside in
    let script = c.args.script.now in
    let new = c.nop_in.new.gates in
    if_ok_map c.nop_in.result (DoesNop m.gates new c.args.gate c.args.shard) _
    (λ (a : StepAnswer) did. subst (λ (v : MachinesView). MachinesDo script (Nop c.args.gate c.args.shard) v (machines_of new m.store m.oracle m.shards m.clients m.notices.items) a) c.self.view_is
    (nop-done script m.gates m.store m.oracle m.shards m.clients m.notices.items new c.args.gate c.args.shard a did))
    c.nop_in.ensures.sends

pub returns-clause-refused : goal.returns-clause-refused
returns-clause-refused c =
    let m = c.self.inside in
    on_err_map c.nop_in.result (c.nop_in.new.gates ≡ m.gates) _ (λ is. same-gates m.gates m.store m.oracle m.shards m.clients m.notices.items c.nop_in.new.gates is ∙ c.self.view_is) c.nop_in.ensures.refused
