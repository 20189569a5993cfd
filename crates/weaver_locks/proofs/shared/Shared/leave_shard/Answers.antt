use Rattle.std.proofs.Common.{arith, ◌<◌, ℕ, List, length, get_or, set, sym, ap, ◌∙◌, subst}
use Rattle.weave_entries.specs.declared.shard_log.ShardDeed.{ShardDeed}
use Rattle.weave_entries.specs.declared.shard_log.ShardEntry.{ShardEntry}
use Rattle.seen_logs.specs.Entries.{shard_pairs}
use Rattle.chronicle.specs.declared.chronicle.Chronicle.{Chronicle}
use Rattle.chronicle.specs.declared.pass.Pass.{Pass}
use Rattle.chronicle.specs.Holds.{log_at_entry, machine_of}
use Rattle.chronicle.specs.Locks.{Lock, lock_of}
use Rattle.chronicle.specs.Logs.{Follows}
use Rattle.chronicle.specs.Passes.{IsReady, number_of}
use Rattle.shard_lock.specs.declared.noted_shard.NotedShard.{NotedShard}
use Rattle.weaver_locks.proofs.Rows.{set_here, set_twice}
use Rattle.weaver_locks.proofs.ShardLeft.{is_hand, was_there}
use Rattle.weaver_locks.proofs.shared.Shared.leave_shard.Goals as goal

pub leave-requires-clause-log : goal.leave-requires-clause-log
leave-requires-clause-log c =
    let p = c.index_mut.result.now in
    subst (λ (n : ℕ). Follows n (log_at_entry c.args.held) (shard_pairs (machine_of c.args.held).shard.log)) (ap number_of (sym c.index_mut.ensures.value))
    (c.requires.log p)

pub returns-clause-done : goal.returns-clause-done
returns-clause-done c before found added asked d =
    let laws = c.the_crates_below_keep_their_laws.ensures in
    let q = c.leave.new.pass in
    let shards_is = ap (λ (l : List (Pass ShardDeed)). set l c.args.shard q) d.shards ∙ set_twice before.shards.items c.args.shard d.pass q in
    let low_old : c.args.shard < length before.shards.items = omega (arith, c.requires.shard, d.does.hand.shards) in
    let ready : (k : Chronicle NotedShard ShardDeed) → IsReady (lock_of (get_or c.args.self.now.shards.items c.args.shard k)) q = λ k. subst (λ (l : Lock ShardDeed). IsReady l q) (c.requires.lock k) c.leave.ensures.ready in
    let its = ap number_of (c.index_mut.ensures.value ∙ (ap (λ (l : List (Pass ShardDeed)). get_or l c.args.shard c.index_mut.result.now) d.shards
    ∙ set_here before.shards.items c.args.shard d.pass c.index_mut.result.now low_old)) in
    let number = c.leave.ensures.number ∙ (its ∙ d.number) in
    let seen_is = c.leave.ensures.seen ∙ ap (λ (l : List ShardEntry). shard_pairs l) d.log_is in (
      is_hand laws c.args.self.now before _ c.args.shard found added asked d.does q shards_is ready number seen_is,
      was_there laws c.args.self.now before _ c.args.shard found added asked d.does q shards_is ready number seen_is,
    )
