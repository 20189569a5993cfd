use Rattle.workers_account.proofs.Parts.{own-visits}
use Rattle.workers_account.proofs.laws.hands_of_a_phase_visit_their_own.Goals as goal

pub returns : goal.returns
returns c = λ shared script upto start was is hands run number low.
    own-visits c.phases_keep_their_laws.ensures shared script upto start was is hands run number low
