use Rattle.hands_account.proofs.Account.{closed-account}
use Rattle.hands_account.proofs.laws.closed_logs_are_an_account.Goals as goal

pub returns : goal.returns
returns c = λ script hands start seen_by closed limits legal of runs.
    closed-account {script = script} {hands = hands} {start = start} {seen_by = seen_by}
    (record { laws = c.the_crates_below_keep_their_laws.ensures; limits = limits; legal = legal; of = of; runs = runs })
