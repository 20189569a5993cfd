use Rattle.seen_logs.proofs.MakesAccount.{made}
use Rattle.seen_logs.proofs.laws.logs_make_an_account.Goals as goal

pub returns : goal.returns
returns c = λ script account number legal hand follows. made c.the_crates_below_keep_their_laws.ensures script account number legal hand follows
