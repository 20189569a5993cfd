-- The line for an input that is too long, and the words after it.
use Rattle.explain_top.proofs.TooLong.{explains_long}
use Rattle.explain_top.proofs.answering.too_long.Goals as goal

pub returns-clause-explains : goal.returns-clause-explains
returns-clause-explains c command input long = explains_long c.refused_for.result _ c.refused_for.ensures.status c.refused_for.ensures.text command input long
