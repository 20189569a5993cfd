use Rattle.weaver_core.proofs.Tables.{read-at}
use Rattle.weaver_core.proofs.sessions.first_unanswered_of.Goals as goal

-- each of them is at the end of its log
pub first_unanswered-requires : goal.first_unanswered-requires
first_unanswered-requires c =
    let clients = c.args.clients.now in
    let n = c.loop-client.client-index in
    let client = c.client-item.result in
    (n, c.requires n client (read-at clients n client c.loop-client-test.true c.client-item.is))
