use Rattle.weave_account.proofs.Basis.{based}
use Rattle.weave_account.proofs.RightReport.{right, form, meetings}
use Rattle.weave_account.proofs.laws.account_is_right.Goals as goal

pub returns : goal.returns
returns c =
    let laws = c.the_crates_below_keep_their_laws.ensures in
    record {
      right = λ script account report limits is reported. right script account (based laws limits is) report reported;
      of_the_script = λ script account report limits is reported. form script account (based laws limits is) report reported;
      in_printed_order = λ script account report reported. reported.order;
      meetings = λ script account report limits is reported. meetings script account (based laws limits is) report reported;
    }
