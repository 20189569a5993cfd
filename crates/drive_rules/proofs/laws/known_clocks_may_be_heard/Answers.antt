use Rattle.weave_account.proofs.Basis.{based}
use Rattle.drive_rules.proofs.Nudged.{after-hearing, after-its-home, at-home, said-later}
use Rattle.drive_rules.proofs.laws.known_clocks_may_be_heard.Goals as goal

pub returns : goal.returns
returns c =
    let laws = c.the_crates_below_keep_their_laws.ensures in
    record {
      after_hearing = λ script account limits is. after-hearing script account (based laws limits is);
      after_its_home = λ script account limits is. after-its-home script account (based laws limits is);
      at_home = λ script account limits is. at-home script account (based laws limits is);
      said_later = λ script account limits is. said-later script account (based laws limits is);
    }
