use Rattle.weaver_locks.specs.Locks.{gate_count, shard_count}
use Rattle.weaver_workers.proofs.Refusals.{refuses-visit}
use Rattle.weaver_workers.proofs.reading.visit_vertex.Goals as goal

pub not_yet-requires : goal.not_yet-requires
not_yet-requires g c =
    refuses-visit (gate_count c.args.shared.now) (shard_count c.args.shared.now) c.args.hand.now c.visit.new.hand
    c.args.running.now c.visit.new.running c.in-Err.fault c.in-Err.ensures.done
