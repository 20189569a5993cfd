use Rattle.vector_stamp.proofs.Events.{precedes_among, among_precedes}
use Rattle.vector_stamp.proofs.laws.other_stamps_change_nothing.Goals as goal

pub returns : goal.returns
returns c = λ events pairs joins a b in_a in_b. (precedes_among events pairs joins a b in_a in_b, among_precedes events pairs a b)
