use Rattle.std.proofs.Common.{ap, ◌∙◌}
use Rattle.weaver_core.specs.Sessions.{ClientTable, with_running}
use Rattle.weaver_core.specs.Cores.{MachinesView, machines_of}
use Rattle.weaver_core.proofs.machines.Machines.put.Goals as goal

pub returns : goal.returns
returns c =
    let m = c.self.inside in
    ap (λ (t : ClientTable). machines_of m.gates m.store m.oracle m.shards t m.notices.items) c.put.ensures
    ∙ ap (λ (v : MachinesView). record v { values = with_running v.values c.args.session c.args.running }) c.self.view_is
