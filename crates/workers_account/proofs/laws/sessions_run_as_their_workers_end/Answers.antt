use Rattle.workers_account.proofs.HowFar.{idle-ran, ran-as}
use Rattle.workers_account.proofs.laws.sessions_run_as_their_workers_end.Goals as goal

pub returns-clause-ends : goal.returns-clause-ends
returns-clause-ends c = λ shared script upto start was is hands closed run end session one.
    ran-as c.phases_keep_their_laws.ensures c.values_stay_by_their_laws.ensures c.hands_read_by_their_laws.ensures
    shared script upto start was is hands closed run end session one.hand one.client one.there one.client_is one.keeps one.ended one.ends

pub returns-clause-idle : goal.returns-clause-idle
returns-clause-idle c = λ script from upto session start closed none answered on.
    idle-ran c.phases_keep_their_laws.ensures.has_reply script from upto session start closed none answered on
