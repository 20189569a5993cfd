use Rattle.weaver_hands.proofs.OwnVisits.{on-after-visit, on-if-none}
use Rattle.weaver_hands.proofs.laws.hands_visit_their_own_programs.Goals as goal

pub returns : goal.returns
returns c =
    let hands = c.hands_keep_their_laws.ensures in
    let laws = c.the_crates_below_keep_their_laws.ensures in
    let stay = c.own_visits_stay.ensures.on in
    record {
      others = λ shared old new is_old is_new none own.
          on-if-none hands laws shared old new is_old is_new (none 0).number (none 0).more stay none own;
      visit = on-after-visit hands laws stay;
    }
