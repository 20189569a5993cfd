use Rattle.weave_account.proofs.Basis.{based}
use Rattle.weave_account.proofs.VisitsSee.{seen, others}
use Rattle.weave_account.proofs.laws.visits_see_what_precedes.Goals as goal

pub returns : goal.returns
returns c =
    let laws = c.the_crates_below_keep_their_laws.ensures in
    record {
      seen = λ script account limits is. seen script account (based laws limits is);
      others = λ script account limits is. others script account (based laws limits is);
    }
