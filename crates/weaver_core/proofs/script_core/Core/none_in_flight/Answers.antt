use Rattle.std.proofs.Common.{IsTrue, subst}
use Rattle.weaver_core.specs.Cores.{CoreView}
use Rattle.weave_account.specs.Account.{NoneInFlight}
use Rattle.weaver_core.proofs.script_core.Core.none_in_flight.Goals as goal

pub returns-clause-landed : goal.returns-clause-landed
returns-clause-landed c = subst (λ (v : CoreView). IsTrue c.none_in_flight.result → NoneInFlight v.state.account) c.self.view_is c.none_in_flight.ensures.0

pub returns-clause-flies : goal.returns-clause-flies
returns-clause-flies c = subst (λ (v : CoreView). NoneInFlight v.state.account → IsTrue c.none_in_flight.result) c.self.view_is c.none_in_flight.ensures.1
