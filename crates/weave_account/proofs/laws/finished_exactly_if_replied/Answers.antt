use Rattle.weave_account.proofs.Basis.{based}
use Rattle.weave_account.proofs.FinalReplies.{finished-replied}
use Rattle.weave_account.proofs.laws.finished_exactly_if_replied.Goals as goal

pub returns : goal.returns
returns c =
    let laws = c.the_crates_below_keep_their_laws.ensures in
    λ script account limits is r request there look. finished-replied script account (based laws limits is) r request there look
