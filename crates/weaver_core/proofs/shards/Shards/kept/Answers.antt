use Rattle.std.proofs.Common.{◌≡◌, ◌<◌, List, length, get_or, sym, ap, subst, ◌∙◌}
use Rattle.weave_entries.specs.declared.shard_log.ShardEntry.{ShardEntry}
use Rattle.weave_entries.specs.ShardReplay.{kept_of}
use Rattle.weaver_core.specs.ShardTable.{ShardTable, shard_log_at, log_of_shard}
use Rattle.weaver_core.proofs.AtShards.{log-is}
use Rattle.weaver_core.proofs.Tables.{read-at, within-image}
use Rattle.weaver_core.proofs.shards.Shards.kept.Goals as goal

pub returns : goal.returns
returns c =
    let shards = c.self.inside.shards.items in
    let s = c.args.shard in
    let shard = c.index.result.now in
    let within = within-image log_of_shard shards s (subst (λ (v : ShardTable). s < length v.logs) (sym c.self.view_is) c.requires) in
    let value : shard ≡ get_or shards s shard = c.index.ensures in
    let at = read-at shards s shard within value in
    let log : shard.log ≡ shard_log_at c.args.self.now s = log-is c.self.inside.gates shards s shard shard within at ∙ ap (λ (v : ShardTable). shard_log_at v s) c.self.view_is in
    c.kept.ensures ∙ ap (λ (l : List ShardEntry). kept_of c.args.v l) log
