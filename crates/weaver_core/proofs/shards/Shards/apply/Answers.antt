use Rattle.std.proofs.Common.{◌≡◌, ◌<◌, ◌+◌, List, None, length, sym, ap, subst, ◌∙◌}
use Rattle.std.specs.Prelude.{IfErr, slice_set}
use Rattle.std.specs.Option.{ForSome}
use Rattle.weave_data.proofs.Results.{on_err_map}
use Rattle.shard_node.specs.Shards.{AddsEntry, CanApplyHead, IsRightlyUnapplied}
use Rattle.shard_node.specs.declared.fault.ApplyFault.{ApplyFault}
use Rattle.weave_entries.specs.declared.message.Message.{Message}
use Rattle.weave_entries.specs.declared.shard_log.ShardDeed.TheVariants.{Applied}
use Rattle.weave_entries.specs.declared.shard_log.ShardEntry.{ShardEntry}
use Rattle.weave_entries.specs.ShardReplay.{head_of, processed_count, waits_at}
use Rattle.weave_entries.specs.ShardRules.{PassesAt}
use Rattle.weaver_core.specs.Messages.{AppliesHead}
use Rattle.weaver_core.specs.ShardTable.{ShardTable, shard_log_at, log_of_shard}
use Rattle.weaver_core.proofs.AtShards.{alike-if-adds, alike-if-same, applies-at, log-is, still-in-order, table-rests, table_of}
use Rattle.weaver_core.proofs.Results.{on_either, on_ok_two}
use Rattle.weaver_core.proofs.Tables.{read-at, within-image}
use Rattle.weaver_core.proofs.shards.Shards.apply.Goals as goal

pub apply-requires-clause-gate : goal.apply-requires-clause-gate
apply-requires-clause-gate c =
    let shards = c.self.inside.shards.items in
    let s = c.args.shard in
    let before = c.index_mut-shard.result.now in
    let within = within-image log_of_shard shards s (subst (λ (v : ShardTable). s < length v.logs) (sym c.self.view_is) c.requires.there) in
    let at = read-at shards s before within c.index_mut-shard.ensures.value in
    subst (λ n. c.args.gate < n) (sym (ap (λ (v : ShardTable). v.gates) c.self.view_is) ∙ sym (c.self.invariant.each_gates s before at)) c.requires.gate

pub apply-requires-clause-passes : goal.apply-requires-clause-passes
apply-requires-clause-passes c =
    let shards = c.self.inside.shards.items in
    let s = c.args.shard in
    let before = c.index_mut-shard.result.now in
    let within = within-image log_of_shard shards s (subst (λ (v : ShardTable). s < length v.logs) (sym c.self.view_is) c.requires.there) in
    let at = read-at shards s before within c.index_mut-shard.ensures.value in
    let log : before.log ≡ shard_log_at c.args.self.now s = log-is c.self.inside.gates shards s before before within at ∙ ap (λ (v : ShardTable). shard_log_at v s) c.self.view_is in
    subst (λ (l : List ShardEntry). ForSome (head_of c.args.gate l) (λ (head : Message). waits_at head l ≡ None → PassesAt l head)) (sym log) c.requires.passes

pub invariant_of-self : goal.invariant_of-self
invariant_of-self c =
    let shards = c.self.inside.shards.items in
    let s = c.args.shard in
    let before = c.index_mut-shard.result.now in
    let after = c.apply.new.self in
    let within = within-image log_of_shard shards s (subst (λ (v : ShardTable). s < length v.logs) (sym c.self.view_is) c.requires.there) in
    let at = read-at shards s before within c.index_mut-shard.ensures.value in
    still-in-order c.self.inside.gates shards s before after within at c.self.invariant
    (on_either c.apply.result (AddsEntry before after 0 (Applied c.args.gate (processed_count c.args.gate before.log + 1))) (after ≡ before) _
    (λ adds. alike-if-adds before after 0 _ adds) (λ is. alike-if-same before after is) c.apply.ensures.entry c.apply.ensures.unchanged)

pub returns-clause-applied : goal.returns-clause-applied
returns-clause-applied c =
    let shards = c.self.inside.shards.items in
    let gates = c.self.inside.gates in
    let s = c.args.shard in
    let before = c.index_mut-shard.result.now in
    let after = c.apply.new.self in
    let within = within-image log_of_shard shards s (subst (λ (v : ShardTable). s < length v.logs) (sym c.self.view_is) c.requires.there) in
    let at = read-at shards s before within c.index_mut-shard.ensures.value in
    on_ok_two c.apply.result (CanApplyHead c.args.gate before.log) (AddsEntry before after 0 (Applied c.args.gate (processed_count c.args.gate before.log + 1))) _
    (λ next adds. subst (λ (v : ShardTable). AppliesHead v (table_of gates (slice_set shards s after)) s c.args.gate) c.self.view_is (applies-at gates shards s before after within at c.args.gate next adds))
    c.apply.ensures.next c.apply.ensures.entry

pub returns-clause-unapplied : goal.returns-clause-unapplied
returns-clause-unapplied c =
    let shards = c.self.inside.shards.items in
    let s = c.args.shard in
    let before = c.index_mut-shard.result.now in
    let within = within-image log_of_shard shards s (subst (λ (v : ShardTable). s < length v.logs) (sym c.self.view_is) c.requires.there) in
    let at = read-at shards s before within c.index_mut-shard.ensures.value in
    let log : before.log ≡ shard_log_at c.args.self.now s = log-is c.self.inside.gates shards s before before within at ∙ ap (λ (v : ShardTable). shard_log_at v s) c.self.view_is in
    subst (λ (l : List ShardEntry). IfErr c.apply.result (λ (fault : ApplyFault). IsRightlyUnapplied c.args.gate l fault)) log c.apply.ensures.refused

pub returns-clause-refused : goal.returns-clause-refused
returns-clause-refused c =
    let shards = c.self.inside.shards.items in
    let s = c.args.shard in
    let before = c.index_mut-shard.result.now in
    let after = c.apply.new.self in
    let within = within-image log_of_shard shards s (subst (λ (v : ShardTable). s < length v.logs) (sym c.self.view_is) c.requires.there) in
    let at = read-at shards s before within c.index_mut-shard.ensures.value in
    on_err_map c.apply.result (after ≡ before) _ (λ is. table-rests c.self.inside.gates shards s before after within at is ∙ c.self.view_is) c.apply.ensures.unchanged
