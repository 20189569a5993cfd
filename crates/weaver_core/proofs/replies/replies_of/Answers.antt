use Rattle.std.proofs.Common.{None, get_or, refl}
use Rattle.weaver_core.proofs.RepliesMore.{replies-more}
use Rattle.weaver_core.proofs.Tables.{read-at}
use Rattle.weaver_core.proofs.replies.replies_of.Goals as goal

pub loop-request-preserved : goal.loop-request-preserved
loop-request-preserved c =
    let r = c.loop-request.request in
    let asked = c.index-requests-request.result in
    replies-more c.args.store.now c.args.clients.now.values c.args.stamps.now c.args.requests.now r c.loop-request.replies c.push.new.self asked (get_or c.args.stamps.now r None) c.in_ok-state.state
    (read-at c.args.requests.now r asked c.loop-request-test.true c.index-requests-request.is) refl c.loop-request.invariant c.in_ok-state.ensures c.in_ok-push.ensures.ok
