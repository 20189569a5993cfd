use Rattle.std.proofs.Common.{sym, subst}
use Rattle.seen_logs.specs.References.{ArrivesAsSeen}
use Rattle.shard_lock.specs.Notes.{NotedShardView, seen_of_shard}
use Rattle.shard_lock.proofs.Adding.{kept_arrived}
use Rattle.shard_lock.proofs.noted_shard.NotedShard.arrive.Goals as goal

pub invariant_of-self : goal.invariant_of-self
invariant_of-self c =
    let arrives = subst (λ (v : NotedShardView). ArrivesAsSeen (seen_of_shard v.shard v.notes) v.shards v.shard.number c.args.gate c.args.number c.args.message)
    (sym c.self.view_is) c.requires.seen in
    let a = c.arrive-arrived.ensures in
    kept_arrived c.the_crates_below_keep_their_laws.ensures c.self.inside.shard c.arrive-arrived.new.self c.self.inside.shards c.self.inside.notes
    c.self.invariant c.shows_rules.ensures c.args.author c.arrive-arrived.result c.args.gate c.args.number c.args.message arrives
    a.kept a.repeat a.refused
