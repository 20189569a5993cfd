use Rattle.lock_row.proofs.Hands.{first_all}
use Rattle.lock_row.proofs.opening.open_beside.Goals as goal

pub returns-clause-passes : goal.returns-clause-passes
returns-clause-passes g c = first_all _ _ _ c.open.ensures.numbers c.open.ensures.ready c.open.ensures.seen
