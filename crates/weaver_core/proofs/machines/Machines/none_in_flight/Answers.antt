use Rattle.std.proofs.Common.{IsTrue, subst}
use Rattle.std.specs.Prelude.{◌↔◌}
use Rattle.weaver_core.specs.Cores.{MachinesView}
use Rattle.weave_account.specs.Account.{NoneInFlight}
use Rattle.weaver_core.proofs.machines.Machines.none_in_flight.Goals as goal

pub returns : goal.returns
returns c = subst (λ (v : MachinesView). IsTrue c.none_in_flight.result ↔ NoneInFlight v.state.account) c.self.view_is c.none_in_flight.ensures
