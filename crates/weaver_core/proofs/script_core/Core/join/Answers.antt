use Rattle.weaver_core.proofs.Parts.{joined, joined-clients, joined-gates, joined-shards}
use Rattle.weaver_core.proofs.script_core.Core.join.Goals as goal

pub of-gates-requires : goal.of-gates-requires
of-gates-requires c = joined-gates c.args.split c.requires

pub of-shards-requires : goal.of-shards-requires
of-shards-requires c = joined-shards c.args.split c.requires

pub of-clients-requires : goal.of-clients-requires
of-clients-requires c = joined-clients c.args.split c.requires c.requests_of_a_session_rise.ensures.rise

pub invariant_of-result : goal.invariant_of-result
invariant_of-result c = (joined c.args.split c.requires c.of-gates.result c.of-shards.result c.of-clients.result c.of-machines.result c.of-machines.ensures c.of-gates.ensures c.of-shards.ensures c.of-clients.ensures.requests c.of-clients.ensures.logs c.of-clients.ensures.values).1

pub returns-clause-state : goal.returns-clause-state
returns-clause-state c = (joined c.args.split c.requires c.of-gates.result c.of-shards.result c.of-clients.result c.of-machines.result c.of-machines.ensures c.of-gates.ensures c.of-shards.ensures c.of-clients.ensures.requests c.of-clients.ensures.logs c.of-clients.ensures.values).0
