use Rattle.weave_account.proofs.Basis.{based}
use Rattle.drive_rules.proofs.ReadsLeft.{visits-left}
use Rattle.drive_rules.proofs.laws.programs_read_few.Goals as goal

pub returns : goal.returns
returns c =
    let laws = c.the_crates_below_keep_their_laws.ensures in
    λ script account limits is. visits-left script account (based laws limits is)
