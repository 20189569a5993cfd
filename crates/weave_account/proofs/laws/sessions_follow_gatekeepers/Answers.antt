use Rattle.weave_account.proofs.Basis.{based}
use Rattle.weave_account.proofs.InSession.{next-follows}
use Rattle.weave_account.proofs.laws.sessions_follow_gatekeepers.Goals as goal

pub returns : goal.returns
returns c =
    let laws = c.the_crates_below_keep_their_laws.ensures in
    λ script account limits is r request there next. next-follows script account (based laws limits is) r request there next
