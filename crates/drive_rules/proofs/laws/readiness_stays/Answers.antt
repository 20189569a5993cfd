use Rattle.weave_account.proofs.Basis.{based}
use Rattle.drive_rules.proofs.ReadyFor.{ready-for, ready-stays, stays-passed}
use Rattle.drive_rules.proofs.laws.readiness_stays.Goals as goal

pub returns : goal.returns
returns c =
    let laws = c.the_crates_below_keep_their_laws.ensures in
    record {
      reached = λ script account limits is. ready-for script account (based laws limits is);
      passed = stays-passed;
      stays = λ script account next limits is is-next. ready-stays script account next (based laws limits is-next);
    }
