use Rattle.weaver_locks.specs.Locks.{gate_count, shard_count}
use Rattle.weaver_workers.proofs.Nudged.{runs-after}
use Rattle.weaver_workers.proofs.ReadOn.{if-ok, read-as, read-goes}
use Rattle.weaver_workers.proofs.reading.read_next.Goals as goal

pub returns-clause-goes : goal.returns-clause-goes
returns-clause-goes g c = if-ok c.visit_next.result
    (read-goes c.workers_keep_their_laws.ensures c.args.shared.now c.args.client.now c.args.hand.now c.visit_next.new.hand
    c.in-Some.running c.visit_next.new.running c.in-Some.is c.visit_next.ensures.hand c.visit_next.ensures.running)
    c.visit_next.ensures.read

pub returns-clause-read : goal.returns-clause-read
returns-clause-read g c = if-ok c.visit_next.result
    (read-as c.workers_keep_their_laws.ensures c.args.shared.now c.args.client.now c.args.hand.now c.visit_next.new.hand
    c.in-Some.running c.visit_next.new.running c.in-Some.is c.visit_next.ensures.hand c.visit_next.ensures.running c.requires.hand)
    c.visit_next.ensures.read

pub returns-clause-still : goal.returns-clause-still
returns-clause-still g c = if-ok c.visit_next.result
    (runs-after (gate_count c.args.shared.now) (shard_count c.args.shared.now) c.args.client.now c.args.hand.now c.visit_next.new.hand
    c.in-Some.running c.visit_next.new.running c.in-Some.is) c.visit_next.ensures.read
