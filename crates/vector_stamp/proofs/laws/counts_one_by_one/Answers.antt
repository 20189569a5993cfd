use Rattle.std.proofs.Common.{refl, ◌∙◌, ◌+◌}
use Rattle.std.proofs.lemmas.List.{length-set}
use Rattle.vector_stamp.specs.Order.{count_of}
use Rattle.vector_stamp.proofs.Counts.{none-counted}
use Rattle.vector_stamp.proofs.Ticks.{own-set, other-set}
use Rattle.vector_stamp.proofs.Hearing.{own_count-hearing, other_count-hearing, own_count-higher, other_count-higher, hearing-eight}
use Rattle.vector_stamp.proofs.Meeting.{count-meet, meet-eight}
use Rattle.vector_stamp.proofs.laws.counts_one_by_one.Goals as goal

pub returns : goal.returns
returns c =
    record {
      ticked = λ home clock below eight. own-set clock.counts home (count_of home clock + 1) below eight;
      not_ticked = λ home gate clock other. other-set clock.counts home (count_of home clock + 1) gate other;
      own = own_count-hearing;
      others = λ home gate clock heard below eight eight_heard same other. other_count-hearing home clock heard below eight eight_heard same gate other;
      own_of_higher = own_count-higher;
      others_of_higher = λ home gate clock heard below eight eight_heard higher other. other_count-higher home clock heard below eight eight_heard higher gate other;
      met = λ gate a b eight_a eight_b same. count-meet a b eight_a eight_b same gate;
      raised = λ gate epoch. none-counted gate;
      eight_ticked = λ home clock eight. length-set clock.counts home (count_of home clock + 1) ∙ eight;
      eight_heard = hearing-eight;
      eight_met = meet-eight;
      eight_raised = λ epoch. refl;
    }
