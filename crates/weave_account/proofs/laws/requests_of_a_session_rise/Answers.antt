use Rattle.weave_account.proofs.Requests.{among-session, before-earlier, requests-rise}
use Rattle.weave_account.proofs.laws.requests_of_a_session_rise.Goals as goal

pub returns : goal.returns
returns c =
    record { rise = requests-rise; among = among-session; earlier = before-earlier }
