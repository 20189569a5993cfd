use Rattle.std.proofs.Common.{None, ap, ◌∙◌}
use Rattle.weaver_core.specs.Sessions.{ClientTable, values_at, with_running}
use Rattle.weaver_core.specs.Cores.{MachinesView, machines_of}
use Rattle.weaver_core.proofs.machines.Machines.take.Goals as goal

pub returns-clause-taken : goal.returns-clause-taken
returns-clause-taken c = c.take.ensures.taken ∙ ap (λ (v : MachinesView). (values_at v.values c.args.session).running) c.self.view_is

pub returns-clause-left : goal.returns-clause-left
returns-clause-left c =
    let m = c.self.inside in
    ap (λ (t : ClientTable). machines_of m.gates m.store m.oracle m.shards t m.notices.items) c.take.ensures.left
    ∙ ap (λ (v : MachinesView). record v { values = with_running v.values c.args.session None }) c.self.view_is
