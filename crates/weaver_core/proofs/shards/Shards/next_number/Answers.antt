use Rattle.std.proofs.Common.{◌≡◌, ℕ, ◌+◌, ◌<◌, ◌≤◌, List, length, get_or, IsTrue, sym, ap, subst, ◌∙◌}
use Rattle.std.specs.Prelude.{is_some}
use Rattle.weave_entries.specs.declared.shard_log.ShardEntry.{ShardEntry}
use Rattle.weave_entries.specs.ShardReplay.{arrived_at, processed_count}
use Rattle.weaver_core.specs.ShardTable.{ShardTable, shard_log_at, log_of_shard}
use Rattle.weaver_core.proofs.AtShards.{log-is}
use Rattle.weaver_core.proofs.Tables.{read-at, within-image}
use Rattle.weaver_core.proofs.shards.Shards.next_number.Goals as goal

-- the shard has channels of the gatekeepers of the table
pub next_number-requires : goal.next_number-requires
next_number-requires c =
    let shards = c.self.inside.shards.items in
    let s = c.args.shard in
    let shard = c.index.result.now in
    let within = within-image log_of_shard shards s (subst (λ (v : ShardTable). s < length v.logs) (sym c.self.view_is) c.requires.there) in
    let value : shard ≡ get_or shards s shard = c.index.ensures in
    let at = read-at shards s shard within value in
    subst (λ n. c.args.gate < n) (sym (ap (λ (v : ShardTable). v.gates) c.self.view_is) ∙ sym (c.self.invariant.each_gates s shard at)) c.requires.gate

pub returns-clause-number : goal.returns-clause-number
returns-clause-number c =
    let shards = c.self.inside.shards.items in
    let s = c.args.shard in
    let shard = c.index.result.now in
    let within = within-image log_of_shard shards s (subst (λ (v : ShardTable). s < length v.logs) (sym c.self.view_is) c.requires.there) in
    let value : shard ≡ get_or shards s shard = c.index.ensures in
    let at = read-at shards s shard within value in
    let log : shard.log ≡ shard_log_at c.args.self.now s = log-is c.self.inside.gates shards s shard shard within at ∙ ap (λ (v : ShardTable). shard_log_at v s) c.self.view_is in
    c.next_number.ensures.number ∙ ap (λ (l : List ShardEntry). processed_count c.args.gate l + 1) log

pub returns-clause-arrived : goal.returns-clause-arrived
returns-clause-arrived c =
    let shards = c.self.inside.shards.items in
    let s = c.args.shard in
    let shard = c.index.result.now in
    let within = within-image log_of_shard shards s (subst (λ (v : ShardTable). s < length v.logs) (sym c.self.view_is) c.requires.there) in
    let value : shard ≡ get_or shards s shard = c.index.ensures in
    let at = read-at shards s shard within value in
    let log : shard.log ≡ shard_log_at c.args.self.now s = log-is c.self.inside.gates shards s shard shard within at ∙ ap (λ (v : ShardTable). shard_log_at v s) c.self.view_is in
    subst (λ (l : List ShardEntry). (n : ℕ) → 1 ≤ n → n < c.next_number.result → IsTrue (is_some (arrived_at c.args.gate n l))) log c.next_number.ensures.arrived
