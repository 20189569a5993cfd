use Rattle.workers_account.proofs.Idle.{landed}
use Rattle.workers_account.proofs.ReadyClients.{keeps-ready}
use Rattle.workers_account.proofs.laws.split_clients_are_ready.Goals as goal

pub returns-clause-idle : goal.returns-clause-idle
returns-clause-idle c = λ script start shared clients hand at-start is_hand seen.
    landed c.phases_keep_their_laws.ensures script start shared clients at-start hand is_hand seen

pub returns-clause-ready : goal.returns-clause-ready
returns-clause-ready c = λ script start shared clients hand session client at-start is_hand seen client-is answered.
    keeps-ready c.phases_keep_their_laws.ensures c.values_stay_by_their_laws.ensures c.phases_start_by_their_laws.ensures
    script start shared clients hand session client at-start is_hand seen client-is answered
