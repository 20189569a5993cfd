use Rattle.std.proofs.Common.{refl, sym, ap, subst, ◌∙◌}
use Rattle.weaver_core.specs.Cores.{AreOf, MachinesView}
use Rattle.weaver_core.proofs.Parts.{parts-for, state-of-parts}
use Rattle.weaver_core.proofs.machines.Machines.split.Goals as goal

pub returns-clause-state : goal.returns-clause-state
returns-clause-state c =
    let m = c.self.inside in
    state-of-parts m.gates m.store m.oracle m.shards m.clients m.notices.items (record { script = c.args.script; gates = c.into_gates.result; store = m.store; oracle = m.oracle; shards = c.into_shards.result; clients = c.into_clients.result; notices = m.notices }) c.into_gates.ensures.logs c.into_shards.ensures.logs c.into_clients.ensures.logs refl refl refl
    ∙ ap (λ (v : MachinesView). v.state) c.self.view_is

pub returns-clause-parts : goal.returns-clause-parts
returns-clause-parts c =
    let m = c.self.inside in
    parts-for c.args.script m.gates m.store m.oracle m.shards m.clients m.notices.items (subst (AreOf c.args.script) (sym c.self.view_is) c.requires) (record { script = c.args.script; gates = c.into_gates.result; store = m.store; oracle = m.oracle; shards = c.into_shards.result; clients = c.into_clients.result; notices = m.notices })
    c.into_gates.ensures.order c.into_gates.ensures.logs c.into_shards.ensures.order c.into_shards.ensures.logs c.into_clients.ensures.requests

pub returns-clause-numbered : goal.returns-clause-numbered
returns-clause-numbered c = c.into_clients.ensures.numbered

pub returns-clause-values : goal.returns-clause-values
returns-clause-values c = c.into_clients.ensures.values ∙ ap (λ (v : MachinesView). v.values) c.self.view_is
