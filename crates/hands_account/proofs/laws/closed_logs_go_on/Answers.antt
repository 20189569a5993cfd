use Rattle.hands_account.proofs.ByHands.{start-within}
use Rattle.hands_account.proofs.laws.closed_logs_go_on.Goals as goal

pub returns : goal.returns
returns c = λ shards hands start seen_by closed of sessions.
    let on = start-within of in
    record { gates = on.gates; store = on.store; oracle = on.oracle; shards = on.shards; sessions = sessions }
