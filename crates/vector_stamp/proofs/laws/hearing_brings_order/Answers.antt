use Rattle.vector_stamp.proofs.Hearing.{hearing-lower, own_at_most-hearing, heard_at_most-hearing, heard_before-stamp, own_before-stamp}
use Rattle.vector_stamp.proofs.laws.hearing_brings_order.Goals as goal

pub returns : goal.returns
returns c =
    record {
      of_lower = hearing-lower;
      never_back = own_at_most-hearing;
      not_behind = heard_at_most-hearing;
      then_after = heard_before-stamp;
      then_rises = own_before-stamp;
    }
