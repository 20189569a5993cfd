use Rattle.sessions_account.proofs.Closed.{closed-account, run-by-hands}
use Rattle.sessions_account.proofs.Ends.{goes}
use Rattle.sessions_account.proofs.laws.closed_logs_of_sessions_are_an_account.Goals as goal

pub returns-clause-follows : goal.returns-clause-follows
returns-clause-follows c = λ shared script upto start was is hands closed served end.
    run-by-hands (record { laws = c.sessions_keep_their_laws.ensures; shared = shared; script = script; upto = upto; start = start; was = was; is = is; hands = hands; served = served })
    closed end

pub returns-clause-account : goal.returns-clause-account
returns-clause-account c = λ shared script upto start was is hands closed served end.
    closed-account (record { laws = c.sessions_keep_their_laws.ensures; shared = shared; script = script; upto = upto; start = start; was = was; is = is; hands = hands; served = served })
    closed end

pub returns-clause-goes_on : goal.returns-clause-goes_on
returns-clause-goes_on c = λ shared script upto start was is hands closed served end.
    goes (record { laws = c.sessions_keep_their_laws.ensures; shared = shared; script = script; upto = upto; start = start; was = was; is = is; hands = hands; served = served })
    closed end
