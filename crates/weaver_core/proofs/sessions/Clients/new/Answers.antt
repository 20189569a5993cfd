use Rattle.weaver_core.proofs.sessions.Clients.new.Goals as goal

pub invariant_of-result : goal.invariant_of-result
invariant_of-result c = c.in_ok-clients.ensures.numbered

pub returns-clause-requests : goal.returns-clause-requests
returns-clause-requests c = c.in_ok-clients.ensures.requests

pub returns-clause-logs : goal.returns-clause-logs
returns-clause-logs c = c.in_ok-clients.ensures.logs

pub returns-clause-values : goal.returns-clause-values
returns-clause-values c = c.in_ok-clients.ensures.values
