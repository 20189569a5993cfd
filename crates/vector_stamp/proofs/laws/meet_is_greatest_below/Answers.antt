use Rattle.vector_stamp.proofs.Meeting.{meet-first, meet-second, meet_at_most-first, meet_at_most-second, at_most-meet}
use Rattle.vector_stamp.proofs.laws.meet_is_greatest_below.Goals as goal

pub returns : goal.returns
returns c =
    record {
      of_two_epochs = λ a b less. (meet-first a b less, meet-second b a less);
      below_first = meet_at_most-first;
      below_second = meet_at_most-second;
      greatest = λ a b c eight_a eight_b under_a under_b. at_most-meet a b eight_a eight_b c under_a under_b;
    }
