use Rattle.hands_account.proofs.LastStamp.{last-heard}
use Rattle.hands_account.proofs.laws.last_stamps_are_those_of_sessions.Goals as goal

pub returns : goal.returns
returns c = λ script account sessions r request at log on next.
    last-heard c.the_crates_below_keep_their_laws.ensures script account sessions r request at log on next
