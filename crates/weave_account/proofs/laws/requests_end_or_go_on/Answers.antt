use Rattle.weave_account.proofs.Basis.{based}
use Rattle.weave_account.proofs.InSession.{sent-unless}
use Rattle.weave_account.proofs.Requests.{each-once, flight-own}
use Rattle.weave_account.proofs.laws.requests_end_or_go_on.Goals as goal

pub returns : goal.returns
returns c =
    let laws = c.the_crates_below_keep_their_laws.ensures in
    record {
      once = λ script account limits is home. each-once script account (based laws limits is) home;
      flights = λ script account limits is home flight flies. flight-own script account (based laws limits is) home flight flies;
      sent = λ script account limits is r request there change begun. sent-unless script account (based laws limits is) r request there change begun;
    }
