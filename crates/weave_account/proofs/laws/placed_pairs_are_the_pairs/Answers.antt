use Rattle.weave_account.proofs.Basis.{based}
use Rattle.weave_account.proofs.PlacedPairs.{placed-are}
use Rattle.weave_account.proofs.laws.placed_pairs_are_the_pairs.Goals as goal

pub returns : goal.returns
returns c =
    let laws = c.the_crates_below_keep_their_laws.ensures in
    λ script account limits is. placed-are script account (based laws limits is)
