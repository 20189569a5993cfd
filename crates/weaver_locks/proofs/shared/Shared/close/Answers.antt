use Rattle.weaver_locks.proofs.shared.Shared.close.Goals as goal

pub returns-clause-order : goal.returns-clause-order
returns-clause-order c = c.close_all.ensures.closed.order

pub returns-clause-legal : goal.returns-clause-legal
returns-clause-legal c = c.close_all.ensures.closed.legal

pub returns-clause-within : goal.returns-clause-within
returns-clause-within c = c.close_all.ensures.closed.within

pub returns-clause-entries : goal.returns-clause-entries
returns-clause-entries c = c.close_all.ensures.closed.entries

pub returns-clause-of_hands : goal.returns-clause-of_hands
returns-clause-of_hands c = c.close_all.ensures.closed.of_hands

pub returns-clause-made : goal.returns-clause-made
returns-clause-made c = c.close_all.ensures.closed.made
