use Rattle.std.proofs.Common.{◌∙◌, sym, subst}
use Rattle.weave_data.proofs.Results.{on_err_known}
use Rattle.program_defs.specs.declared.script.Step.TheVariants.{Collect}
use Rattle.report_rules.specs.declared.report.StepAnswer.TheVariants.{Ok}
use Rattle.weaver_core.specs.Cores.{MachinesDo, MachinesView, CanBeGiven, machines_of}
use Rattle.weaver_core.proofs.MessagesDone.{collect-done, shard-there}
use Rattle.weaver_core.proofs.Resting.{same-shards}
use Rattle.weaver_core.proofs.machines.Machines.collect.Goals as goal

-- the shard is there
pub collect-requires : goal.collect-requires
collect-requires c =
    let m = c.self.inside in
    let script = c.args.script.now in
    let s = c.args.shard in
    let may = subst (λ (v : MachinesView). CanBeGiven script v (Collect s)) (sym c.self.view_is) c.requires in
    shard-there script m.gates m.store m.oracle m.shards m.clients m.notices.items may.are s may.there

pub returns-clause-done : goal.returns-clause-done
returns-clause-done c =
    let m = c.self.inside in
    let script = c.args.script.now in
    let s = c.args.shard in
    let new = c.collect.new.self in
    let may = subst (λ (v : MachinesView). CanBeGiven script v (Collect s)) (sym c.self.view_is) c.requires in
    subst (λ (v : MachinesView). MachinesDo script (Collect s) v (machines_of m.gates m.store m.oracle new m.clients m.notices.items) Ok) c.self.view_is
    (collect-done script m.gates m.store m.oracle m.shards m.clients m.notices.items may.are new s c.in_ok-collect.ensures.collected)

pub returns-in_err-collect-clause-refused : goal.returns-in_err-collect-clause-refused
returns-in_err-collect-clause-refused c =
    let m = c.self.inside in
    on_err_known _ _ (same-shards m.gates m.store m.oracle m.shards m.clients m.notices.items c.collect.new.self c.in_err-collect.ensures.refused ∙ c.self.view_is)
