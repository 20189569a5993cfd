use Rattle.vector_stamp.proofs.MeetsOfLists.{meet-comm, meet-assoc}
use Rattle.vector_stamp.proofs.laws.meets_commute.Goals as goal

pub returns : goal.returns
returns c = record { commutative = meet-comm; associative = meet-assoc }
