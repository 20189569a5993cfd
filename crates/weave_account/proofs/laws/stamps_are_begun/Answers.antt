use Rattle.weave_account.proofs.Basis.{based}
use Rattle.weave_account.proofs.BegunElsewhere.{judged-stamp, last-stamped, stamped-begun, update-stamp}
use Rattle.weave_account.proofs.Meeting.{visit-stamp}
use Rattle.weave_account.proofs.PairEnds.{settled-in}
use Rattle.weave_account.proofs.PhasePrecedence.{joins}
use Rattle.weave_account.proofs.laws.stamps_are_begun.Goals as goal

pub returns : goal.returns
returns c =
    let laws = c.the_crates_below_keep_their_laws.ensures in
    record {
      judged = λ script account limits is judged h. judged-stamp script account (based laws limits is) judged h;
      paired = λ script account limits is. joins script account (based laws limits is);
      settled = λ script account limits is entry h stamp k. settled-in script account (based laws limits is) entry h stamp k;
      updates = λ script account limits is v shard update h. update-stamp script account (based laws limits is) v shard update h;
      visits = λ script account limits is shard visit h.
          stamped-begun script account (based laws limits is) visit.request visit.stamp
          (visit-stamp script account (based laws limits is) shard visit h);
      last = λ script account limits is session stamp e. last-stamped script account (based laws limits is) session stamp e;
    }
