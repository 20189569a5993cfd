use Rattle.vector_stamp.proofs.Pairs.{precedes_grows, precedes-push}
use Rattle.vector_stamp.proofs.laws.more_pairs_more_precedence.Goals as goal

pub returns : goal.returns
returns c = record { grows = precedes_grows; at_the_end = precedes-push }
