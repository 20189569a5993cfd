use Rattle.std.proofs.Common.{List, ap, ◌∙◌, subst}
use Rattle.std.specs.Prelude.{Vec}
use Rattle.std.specs.Global.{Global}
use Rattle.weave_entries.specs.declared.shard_log.ShardDeed.{ShardDeed}
use Rattle.weave_entries.specs.declared.store_log.StoreDeed.{StoreDeed}
use Rattle.weave_entries.specs.declared.store_log.StoreEntry.{StoreEntry}
use Rattle.seen_logs.specs.Entries.{store_pairs}
use Rattle.chronicle.specs.declared.pass.Pass.{Pass}
use Rattle.chronicle.specs.Locks.{Lock}
use Rattle.chronicle.specs.Passes.{IsReady}
use Rattle.weaver_locks.proofs.StoreLeft.{is_hand, was_there}
use Rattle.weaver_locks.proofs.shared.Shared.leave_store.Goals as goal

pub returns : goal.returns
returns c before found added settled asked d =
    let laws = c.the_crates_below_keep_their_laws.ensures in
    let q = c.leave.new.pass in
    let shards_is = ap (λ (v : Vec (Pass ShardDeed) Global). v.items) d.shards in
    let ready = subst (λ (l : Lock StoreDeed). IsReady l q) c.requires.lock c.leave.ensures.ready in
    let number = c.leave.ensures.number ∙ d.number in
    let seen_is = c.leave.ensures.seen ∙ ap (λ (l : List StoreEntry). store_pairs l) d.log_is in (
      is_hand laws c.args.self.now before _ found added settled asked d.does shards_is ready number seen_is,
      was_there laws c.args.self.now before _ found added settled asked d.does shards_is ready number seen_is,
    )
