use Rattle.std.proofs.Common.{List, ℕ, ◌<◌, AllPairs, sym, subst}
use Rattle.weaver_core.proofs.AtClients.{first-client-more}
use Rattle.weaver_core.proofs.sessions.first_clients.Goals as goal

-- the requests of a session rise
pub new-client-requires : goal.new-client-requires
new-client-requires c = subst (λ (rs : List ℕ). AllPairs (λ (a b : ℕ). a < b) rs) (sym c.in_ok-requests.ensures) (c.requests_of_a_session_rise.ensures.rise c.args.script.now c.loop-number.number)

pub loop-number-preserved : goal.loop-number-preserved
loop-number-preserved c =
    let client = c.new-client.result in
    first-client-more c.args.script.now c.loop-number.number c.loop-number.clients.items c.push.new.self.items client c.in_ok-requests.requests.items c.loop-number.invariant c.in_ok-requests.ensures
    c.new-client.ensures.requests c.new-client.ensures.log c.new-client.ensures.values c.new-client.ensures.client c.in_ok-push.ensures.items
