use Rattle.hands_account.proofs.Needed.{follows-account}
use Rattle.hands_account.proofs.laws.hands_of_an_account_follow_its_script.Goals as goal

pub returns : goal.returns
returns c = λ script hands start seen_by closed limits legal of is number known finishes.
    follows-account c.the_crates_below_keep_their_laws.ensures script hands start seen_by closed limits legal of is number known finishes
