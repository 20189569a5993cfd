use Rattle.weaver_core.proofs.CoreDone.{start-are, start-is}
use Rattle.weaver_core.proofs.machines.Machines.new.Goals as goal

pub returns-clause-are : goal.returns-clause-are
returns-clause-are c =
    start-are c.args.script.now c.requires (c.start_is_a_core.ensures c.args.script.now) c.in_ok-gates.gates c.new-store.result c.new-oracle.result c.in_ok-shards.shards c.in_ok-clients.clients c.new-notices.result.items
    c.in_ok-gates.ensures c.new-store.ensures c.new-oracle.ensures c.in_ok-shards.ensures c.in_ok-clients.ensures.requests c.in_ok-clients.ensures.logs c.new-notices.ensures.items

pub returns-clause-start : goal.returns-clause-start
returns-clause-start c =
    start-is c.args.script.now c.requires (c.start_is_a_core.ensures c.args.script.now) c.in_ok-gates.gates c.new-store.result c.new-oracle.result c.in_ok-shards.shards c.in_ok-clients.clients c.new-notices.result.items
    c.in_ok-gates.ensures c.new-store.ensures c.new-oracle.ensures c.in_ok-shards.ensures c.in_ok-clients.ensures.requests c.in_ok-clients.ensures.logs c.new-notices.ensures.items

pub returns-clause-values : goal.returns-clause-values
returns-clause-values c = c.in_ok-clients.ensures.values
