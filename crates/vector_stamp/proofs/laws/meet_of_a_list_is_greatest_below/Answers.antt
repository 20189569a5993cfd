use Rattle.vector_stamp.proofs.MeetsOfLists.{meet_with-eight, meet_with-below, meet_with-greatest, meet_with-same}
use Rattle.vector_stamp.proofs.laws.meet_of_a_list_is_greatest_below.Goals as goal

pub returns : goal.returns
returns c = record { eight = meet_with-eight; below_each = meet_with-below; greatest = meet_with-greatest; in_any_order = meet_with-same }
