use Rattle.weave_account.proofs.Basis.{based}
use Rattle.weave_account.proofs.BegunElsewhere.{judged-counts, judged-there, judged-work}
use Rattle.weave_account.proofs.InSession.{judged-before}
use Rattle.weave_account.proofs.laws.judgements_are_of_requests.Goals as goal

pub returns : goal.returns
returns c =
    let laws = c.the_crates_below_keep_their_laws.ensures in
    record {
      work = λ script account limits is judged h. judged-work script account (based laws limits is) judged h;
      begun = λ script account limits is judged h. judged-there script account (based laws limits is) judged h;
      counts = λ script account limits is judged h. judged-counts script account (based laws limits is) judged h;
      before = λ script account limits is home flight flies judged h other. judged-before script account (based laws limits is) home flight flies judged h other;
    }
