use Rattle.std.proofs.Common.{◌≡◌, ◌<◌, length, sym, subst, ◌∙◌}
use Rattle.std.specs.Prelude.{slice_set}
use Rattle.weave_data.proofs.Results.{on_ok_map, on_err_map}
use Rattle.shard_node.specs.Shards.{AddsEntry}
use Rattle.weave_entries.specs.declared.shard_log.ShardDeed.TheVariants.{Collected}
use Rattle.weave_entries.specs.ShardReplay.{bound_of}
use Rattle.weaver_core.specs.ShardTable.{AddsToShard, ShardTable, shard_log_at, log_of_shard}
use Rattle.weaver_core.proofs.AtShards.{adds-at, alike-if-adds, alike-if-same, log-is, still-in-order, table-rests, table_of}
use Rattle.weaver_core.proofs.Results.{on_either}
use Rattle.weaver_core.proofs.Tables.{read-at, within-image}
use Rattle.weaver_core.proofs.shards.Shards.collect.Goals as goal

pub invariant_of-self : goal.invariant_of-self
invariant_of-self c =
    let shards = c.self.inside.shards.items in
    let s = c.args.shard in
    let before = c.index_mut-shard.result.now in
    let after = c.collect.new.self in
    let within = within-image log_of_shard shards s (subst (λ (v : ShardTable). s < length v.logs) (sym c.self.view_is) c.requires) in
    let at = read-at shards s before within c.index_mut-shard.ensures.value in
    still-in-order c.self.inside.gates shards s before after within at c.self.invariant
    (on_either c.collect.result (AddsEntry before after 0 (Collected (bound_of before.gates before.log))) (after ≡ before) _
    (λ adds. alike-if-adds before after 0 _ adds) (λ is. alike-if-same before after is) c.collect.ensures.entry c.collect.ensures.unchanged)

pub returns-clause-collected : goal.returns-clause-collected
returns-clause-collected c =
    let shards = c.self.inside.shards.items in
    let gates = c.self.inside.gates in
    let s = c.args.shard in
    let before = c.index_mut-shard.result.now in
    let after = c.collect.new.self in
    let within = within-image log_of_shard shards s (subst (λ (v : ShardTable). s < length v.logs) (sym c.self.view_is) c.requires) in
    let at = read-at shards s before within c.index_mut-shard.ensures.value in
    let deed : Collected (bound_of before.gates before.log) ≡ Collected (bound_of gates (shard_log_at (table_of gates shards) s)) =
    λ i. Collected (bound_of (c.self.invariant.each_gates s before at i) (log-is gates shards s before before within at i)) in
    on_ok_map c.collect.result (AddsEntry before after 0 (Collected (bound_of before.gates before.log))) _
    (λ adds. subst (λ (v : ShardTable). AddsToShard v (table_of gates (slice_set shards s after)) s (Collected (bound_of v.gates (shard_log_at v s)))) c.self.view_is
    (adds-at gates shards s before after within at (Collected (bound_of gates (shard_log_at (table_of gates shards) s))) (subst (AddsEntry before after 0) deed adds)))
    c.collect.ensures.entry

pub returns-clause-refused : goal.returns-clause-refused
returns-clause-refused c =
    let shards = c.self.inside.shards.items in
    let s = c.args.shard in
    let before = c.index_mut-shard.result.now in
    let after = c.collect.new.self in
    let within = within-image log_of_shard shards s (subst (λ (v : ShardTable). s < length v.logs) (sym c.self.view_is) c.requires) in
    let at = read-at shards s before within c.index_mut-shard.ensures.value in
    on_err_map c.collect.result (after ≡ before) _ (λ is. table-rests c.self.inside.gates shards s before after within at is ∙ c.self.view_is) c.collect.ensures.unchanged
