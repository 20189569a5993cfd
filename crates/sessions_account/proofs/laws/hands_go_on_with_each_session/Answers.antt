use Rattle.sessions_account.proofs.Leading.{served-on}
use Rattle.sessions_account.proofs.laws.hands_go_on_with_each_session.Goals as goal

pub returns-clause-keeps : goal.returns-clause-keeps
returns-clause-keeps c = λ shared script upto start was hand_of from at path at_start may went.
    (served-on c.sessions_keep_their_laws.ensures shared script upto start was hand_of at_start from at path may went).keeps

pub returns-clause-visits : goal.returns-clause-visits
returns-clause-visits c = λ shared script upto start was hand_of from at path at_start may went.
    (served-on c.sessions_keep_their_laws.ensures shared script upto start was hand_of at_start from at path may went).visits
