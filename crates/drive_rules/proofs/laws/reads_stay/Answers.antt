use Rattle.drive_rules.proofs.ReadsStay.{all-leave, others-leave}
use Rattle.drive_rules.proofs.laws.reads_stay.Goals as goal

pub returns : goal.returns
returns c =
    let laws = c.the_crates_below_keep_their_laws.ensures in
    record {
      others = λ script state step limits range core r. others-leave laws script state r limits core step range;
      whole = λ script state step limits range core r request program request-is work-is whole. all-leave laws script state r limits core request program request-is work-is whole step range;
    }
