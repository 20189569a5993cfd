use Rattle.weave_account.proofs.Basis.{based}
use Rattle.weave_account.proofs.PhasesKept.{phases-kept}
use Rattle.weave_account.proofs.laws.phases_are_kept.Goals as goal

pub returns : goal.returns
returns c =
    let laws = c.the_crates_below_keep_their_laws.ensures in
    λ script account report limits is run reported. phases-kept script account (based laws limits is) run report reported
