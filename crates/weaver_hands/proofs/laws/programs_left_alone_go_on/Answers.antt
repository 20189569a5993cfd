use Rattle.weaver_hands.proofs.Alone.{alone-later}
use Rattle.weaver_hands.proofs.Running.{own-same, still-runs}
use Rattle.weaver_hands.proofs.laws.programs_left_alone_go_on.Goals as goal

pub returns : goal.returns
returns c =
    let hands = c.hands_keep_their_laws.ensures in
    let laws = c.the_crates_below_keep_their_laws.ensures in
    record {
      later = alone-later c.more_is_seen.ensures.later;
      running = λ shared old new running is_old is_new alone was. still-runs hands laws shared old new is_old is_new running alone was;
      reads = λ shared old new r is_old is_new alone. own-same hands laws shared old new is_old is_new r alone;
    }
