use Rattle.weave_account.proofs.Basis.{based}
use Rattle.weave_account.proofs.RightReport.{may-be-ordered}
use Rattle.weave_account.proofs.laws.account_may_be_ordered.Goals as goal

pub returns : goal.returns
returns c =
    let laws = c.the_crates_below_keep_their_laws.ensures in
    record {
      replies = λ script account report limits is matches. (may-be-ordered script account (based laws limits is) report matches).0;
      acyclic = λ script account report limits is matches. (may-be-ordered script account (based laws limits is) report matches).1;
    }
