use Rattle.sessions_account.proofs.Runs.{own-visits}
use Rattle.sessions_account.proofs.laws.hands_visit_for_their_sessions.Goals as goal

pub returns : goal.returns
returns c = λ shared script upto start was is hands served number low.
    own-visits (record { laws = c.sessions_keep_their_laws.ensures; shared = shared; script = script; upto = upto; start = start; was = was; is = is; hands = hands; served = served })
    number low
