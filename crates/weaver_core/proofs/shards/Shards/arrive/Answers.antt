use Rattle.std.proofs.Common.{◌≡◌, ◌<◌, length, sym, ap, subst, ◌∙◌}
use Rattle.std.specs.Prelude.{slice_set}
use Rattle.weave_data.proofs.Results.{on_err_map}
use Rattle.shard_queue.specs.declared.inbox.Arrival.{Arrival}
use Rattle.weave_entries.specs.declared.shard_log.ShardDeed.TheVariants.{Arrived}
use Rattle.weaver_core.specs.Messages.{ArrivesAtShard}
use Rattle.weaver_core.specs.ShardTable.{ShardTable, log_of_shard}
use Rattle.weaver_core.proofs.AtShards.{alike-if-arrives, arrives-at, still-in-order, table-rests, table_of}
use Rattle.weaver_core.proofs.Results.{if_ok_three}
use Rattle.weaver_core.proofs.Tables.{read-at, within-image}
use Rattle.weaver_core.proofs.shards.Shards.arrive.Goals as goal

-- the shard has channels of the gatekeepers of the table
pub arrive-requires-clause-gate : goal.arrive-requires-clause-gate
arrive-requires-clause-gate c =
    let shards = c.self.inside.shards.items in
    let s = c.args.shard in
    let before = c.index_mut-shard.result.now in
    let within = within-image log_of_shard shards s (subst (λ (v : ShardTable). s < length v.logs) (sym c.self.view_is) c.requires.there) in
    let at = read-at shards s before within c.index_mut-shard.ensures.value in
    subst (λ n. c.args.gate < n) (sym (ap (λ (v : ShardTable). v.gates) c.self.view_is) ∙ sym (c.self.invariant.each_gates s before at)) c.requires.gate

pub invariant_of-self : goal.invariant_of-self
invariant_of-self c =
    let shards = c.self.inside.shards.items in
    let s = c.args.shard in
    let before = c.index_mut-shard.result.now in
    let after = c.arrive.new.self in
    let within = within-image log_of_shard shards s (subst (λ (v : ShardTable). s < length v.logs) (sym c.self.view_is) c.requires.there) in
    let at = read-at shards s before within c.index_mut-shard.ensures.value in
    still-in-order c.self.inside.gates shards s before after within at c.self.invariant
    (alike-if-arrives before after c.arrive.result (Arrived c.args.gate c.args.number c.args.message) c.arrive.ensures.kept c.arrive.ensures.repeat c.arrive.ensures.refused)

pub returns-clause-arrives : goal.returns-clause-arrives
returns-clause-arrives c =
    let shards = c.self.inside.shards.items in
    let gates = c.self.inside.gates in
    let s = c.args.shard in
    let before = c.index_mut-shard.result.now in
    let after = c.arrive.new.self in
    let within = within-image log_of_shard shards s (subst (λ (v : ShardTable). s < length v.logs) (sym c.self.view_is) c.requires.there) in
    let at = read-at shards s before within c.index_mut-shard.ensures.value in
    if_ok_three c.arrive.result _ _ _ _
    (λ (arrival : Arrival) is kept repeat. subst (λ (v : ShardTable). ArrivesAtShard v (table_of gates (slice_set shards s after)) s c.args.gate c.args.number c.args.message arrival) c.self.view_is
    (arrives-at gates shards s before after within at c.args.gate c.args.number c.args.message arrival is kept repeat))
    c.arrive.ensures.answer c.arrive.ensures.kept c.arrive.ensures.repeat

pub returns-clause-refused : goal.returns-clause-refused
returns-clause-refused c =
    let shards = c.self.inside.shards.items in
    let s = c.args.shard in
    let before = c.index_mut-shard.result.now in
    let after = c.arrive.new.self in
    let within = within-image log_of_shard shards s (subst (λ (v : ShardTable). s < length v.logs) (sym c.self.view_is) c.requires.there) in
    let at = read-at shards s before within c.index_mut-shard.ensures.value in
    on_err_map c.arrive.result (after ≡ before) _ (λ is. table-rests c.self.inside.gates shards s before after within at is ∙ c.self.view_is) c.arrive.ensures.refused
