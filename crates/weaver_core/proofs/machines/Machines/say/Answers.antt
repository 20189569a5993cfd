use Rattle.std.proofs.Common.{◌∙◌, ◌++◌, ◌∷◌, [], List, sym, ap, subst}
use Rattle.weave_data.proofs.Results.{on_err_known}
use Rattle.vector_stamp.specs.declared.clock.Clock.{Clock}
use Rattle.program_defs.specs.declared.script.Step.TheVariants.{Say}
use Rattle.report_rules.specs.declared.report.StepAnswer.TheVariants.{Ok}
use Rattle.weaver_core.specs.Cores.{MachinesDo, MachinesView, CanBeGiven, machines_of}
use Rattle.weaver_core.proofs.ClockDone.{say-done}
use Rattle.weaver_core.proofs.Resting.{gate-there}
use Rattle.weaver_core.proofs.machines.Machines.say.Goals as goal

-- the gatekeeper is there
pub say-clock-requires : goal.say-clock-requires
say-clock-requires c =
    let may = subst (λ (v : MachinesView). CanBeGiven c.args.script.now v (Say c.args.gate)) (sym c.self.view_is) c.requires in
    gate-there c.args.script.now _ c.args.gate may.are.frame may.there

-- a capacity is not in the view
pub returns-in_err-reserve-clause-refused : goal.returns-in_err-reserve-clause-refused
returns-in_err-reserve-clause-refused c =
    let m = c.self.inside in
    on_err_known _ _ (ap (λ (notices : List Clock). machines_of m.gates m.store m.oracle m.shards m.clients notices) c.reserve.ensures.items ∙ c.self.view_is)

pub returns-clause-done : goal.returns-clause-done
returns-clause-done c =
    let m = c.self.inside in
    let clock = c.say-clock.result in
    let is = c.push_reserved.ensures.items ∙ ap (λ (notices : List Clock). notices ++ clock ∷ []) c.reserve.ensures.items in
    subst (λ (v : MachinesView). MachinesDo c.args.script.now (Say c.args.gate) v (machines_of m.gates m.store m.oracle m.shards m.clients c.push_reserved.new.self.items) Ok) c.self.view_is
    (subst (λ (notices : List Clock). MachinesDo c.args.script.now (Say c.args.gate) (machines_of m.gates m.store m.oracle m.shards m.clients m.notices.items) (machines_of m.gates m.store m.oracle m.shards m.clients notices) Ok) (sym is)
    (say-done c.args.script.now m.gates m.store m.oracle m.shards m.clients m.notices.items c.args.gate clock c.say-clock.ensures))
