use Rattle.weave_account.proofs.Basis.{based}
use Rattle.weave_account.proofs.FinalReplies.{all-final}
use Rattle.weave_account.proofs.laws.replied_requests_are_final.Goals as goal

pub returns : goal.returns
returns c =
    let laws = c.the_crates_below_keep_their_laws.ensures in
    λ script account report limits is matches all. all-final script account (based laws limits is) all report matches
