use Rattle.std.proofs.Common.{◌≡◌, ◌∙◌, List, sym, subst}
use Rattle.weave_data.proofs.Results.{on_err_map}
use Rattle.vector_stamp.specs.declared.clock.Clock.{Clock}
use Rattle.program_defs.specs.declared.script.Step.TheVariants.{Hear}
use Rattle.report_rules.specs.declared.report.StepAnswer.{StepAnswer}
use Rattle.weaver_core.specs.Clocks.{Hears}
use Rattle.weaver_core.specs.Cores.{MachinesDo, MachinesView, CanBeGiven, machines_of}
use Rattle.weaver_core.proofs.ClockDone.{hear-done}
use Rattle.weaver_core.proofs.Resting.{gate-there, same-gates}
use Rattle.weaver_core.proofs.Results.{if_ok_map}
use Rattle.weaver_core.proofs.machines.Machines.hear.Goals as goal

pub hear_in-requires : goal.hear_in-requires
hear_in-requires c =
    let may = subst (λ (v : MachinesView). CanBeGiven c.args.script.now v (Hear c.args.gate c.args.notice)) (sym c.self.view_is) c.requires in
    gate-there c.args.script.now _ c.args.gate may.are.frame may.there.0

pub returns-clause-done : goal.returns-clause-done
returns-clause-done c =
    let m = c.self.inside in
    let new = c.hear_in.new.gates in
    if_ok_map c.hear_in.result (Hears m.gates new c.as_slice.result.now c.args.gate c.args.notice) _
    (λ (a : StepAnswer) did. subst (λ (v : MachinesView). MachinesDo c.args.script.now (Hear c.args.gate c.args.notice) v (machines_of new m.store m.oracle m.shards m.clients m.notices.items) a) c.self.view_is
    (hear-done c.args.script.now m.gates m.store m.oracle m.shards m.clients m.notices.items new c.args.gate c.args.notice a
    (subst (λ (notices : List Clock). Hears m.gates new notices c.args.gate c.args.notice a) c.as_slice.ensures.value did)))
    c.hear_in.ensures.hears

pub returns-clause-refused : goal.returns-clause-refused
returns-clause-refused c =
    let m = c.self.inside in
    on_err_map c.hear_in.result (c.hear_in.new.gates ≡ m.gates) _ (λ is. same-gates m.gates m.store m.oracle m.shards m.clients m.notices.items c.hear_in.new.gates is ∙ c.self.view_is) c.hear_in.ensures.refused
