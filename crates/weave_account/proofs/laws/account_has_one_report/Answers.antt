use Rattle.weave_account.proofs.Basis.{based}
use Rattle.weave_account.proofs.OneReport.{same-replies, same-pairs, same-order}
use Rattle.weave_account.proofs.laws.account_has_one_report.Goals as goal

pub returns : goal.returns
returns c =
    let laws = c.the_crates_below_keep_their_laws.ensures in
    record {
      replies = λ script account a b limits is first second. same-replies script account (based laws limits is) a b first second;
      pairs = λ script account a b limits is first second. same-pairs script account (based laws limits is) a b first second;
      order = λ script account a b limits is first second. same-order script account (based laws limits is) a b first second;
    }
