use Rattle.std.proofs.Common.{◌≡◌, ◌<◌, ◌++◌, IsTrue, true, List, None, length, map, take, refl, sym, ap, subst, ◌∙◌}
use Rattle.std.specs.Prelude.{IfErr, slice_set}
use Rattle.weave_data.proofs.Results.{on_err_map}
use Rattle.graph_ops.specs.Operations.{State}
use Rattle.shard_node.specs.Shards.{AddsEntry, IsRightlyUnread}
use Rattle.shard_node.specs.declared.fault.VisitFault.{VisitFault}
use Rattle.weave_entries.specs.declared.shard_log.ShardDeed.TheVariants.{Visited}
use Rattle.weave_entries.specs.declared.shard_log.ShardEntry.{ShardEntry}
use Rattle.weave_entries.specs.OracleReplay.{pairs_of_log, settled_entry}
use Rattle.weave_entries.specs.ShardReplay.{first_unready, state_of_updates, updates_of}
use Rattle.weave_entries.specs.ShardRules.{IsKeptFor, entries_of_visit, is_settled_by, updates_read}
use Rattle.weaver_core.specs.ShardTable.{ShardTable, shard_log_at, log_of_shard}
use Rattle.weaver_core.specs.Visiting.{Reads}
use Rattle.weaver_core.proofs.AtShards.{alike-if-adds, alike-if-same, log-is, still-in-order, table_of}
use Rattle.weaver_core.proofs.AtVisits.{VisitLaws, if_ok_on_three, oracle-same, reads-at}
use Rattle.weaver_core.proofs.Results.{on_either}
use Rattle.weaver_core.proofs.Tables.{read-at, within-image}
use Rattle.weaver_core.proofs.shards.Shards.visit.Goals as goal

pub invariant_of-self : goal.invariant_of-self
invariant_of-self c =
    let shards = c.self.inside.shards.items in
    let s = c.args.shard in
    let before = c.index_mut-shard.result.now in
    let after = c.visit.new.self in
    let within = within-image log_of_shard shards s (subst (λ (v : ShardTable). s < length v.logs) (sym c.self.view_is) c.requires.there) in
    let at = read-at shards s before within c.index_mut-shard.ensures.value in
    let pairs = pairs_of_log c.args.oracle.now in
    still-in-order c.self.inside.gates shards s before after within at c.self.invariant
    (on_either c.visit.result (AddsEntry before after 0 (Visited c.args.request c.args.stamp c.args.vertex (updates_read pairs c.args.stamp c.args.vertex before.log) (is_settled_by pairs c.args.stamp c.args.vertex before.log))) (after ≡ before) _
    (λ adds. alike-if-adds before after 0 _ adds) (λ is. alike-if-same before after is) c.visit.ensures.entry c.visit.ensures.unchanged)

pub returns-clause-reads : goal.returns-clause-reads
returns-clause-reads c =
    let shards = c.self.inside.shards.items in
    let gates = c.self.inside.gates in
    let s = c.args.shard in
    let r = c.args.request in
    let stamp = c.args.stamp in
    let v = c.args.vertex in
    let oracle = c.args.oracle.now in
    let then_oracle = c.visit.new.judge in
    let before = c.index_mut-shard.result.now in
    let after = c.visit.new.self in
    let within = within-image log_of_shard shards s (subst (λ (t : ShardTable). s < length t.logs) (sym c.self.view_is) c.requires.there) in
    let at = read-at shards s before within c.index_mut-shard.ensures.value in
    let log : before.log ≡ shard_log_at c.args.self.now s = log-is gates shards s before before within at ∙ ap (λ (t : ShardTable). shard_log_at t s) c.self.view_is in
    let base = subst (λ (l : List ShardEntry). IsKeptFor stamp v l) (sym log) c.requires.ready.base in
    let pairs = pairs_of_log oracle in
    let laws : VisitLaws = record {
      back = c.oracle_entries_are_a_judges.ensures.back;
      updates = c.kept_updates_are_read_like_all.ensures.updates;
      last = c.kept_updates_are_read_like_all.ensures.last;
    } in
    if_ok_on_three c.visit.result
    (first_unready before.gates stamp before.log ≡ None)
    (AddsEntry before after 0 (Visited r stamp v (updates_read pairs stamp v before.log) (is_settled_by pairs stamp v before.log)))
    (IsTrue true → map settled_entry then_oracle ≡ map settled_entry oracle ++ entries_of_visit pairs 0 stamp v before.log)
    (λ (state : State). state ≡ state_of_updates (take (updates_read pairs stamp v before.log) (updates_of v before.log))) _
    (λ (state : State) ready entry logged is. subst (λ (t : ShardTable). Reads t (table_of gates (slice_set shards s after)) oracle then_oracle s r stamp v state) c.self.view_is
    (reads-at laws gates shards s before after within at (c.self.invariant.each_gates s before at) oracle then_oracle r stamp v base ready entry (logged refl) state is))
    c.visit.ensures.ready c.visit.ensures.entry c.visit.ensures.logged c.visit.ensures.state

pub returns-clause-unread : goal.returns-clause-unread
returns-clause-unread c =
    let shards = c.self.inside.shards.items in
    let s = c.args.shard in
    let stamp = c.args.stamp in
    let before = c.index_mut-shard.result.now in
    let within = within-image log_of_shard shards s (subst (λ (t : ShardTable). s < length t.logs) (sym c.self.view_is) c.requires.there) in
    let at = read-at shards s before within c.index_mut-shard.ensures.value in
    let log : before.log ≡ shard_log_at c.args.self.now s = log-is c.self.inside.gates shards s before before within at ∙ ap (λ (t : ShardTable). shard_log_at t s) c.self.view_is in
    let gates = c.self.invariant.each_gates s before at ∙ ap (λ (t : ShardTable). t.gates) c.self.view_is in
    subst (λ n. IfErr c.visit.result (λ (fault : VisitFault). IsRightlyUnread n stamp (shard_log_at c.args.self.now s) fault)) gates
    (subst (λ (l : List ShardEntry). IfErr c.visit.result (λ (fault : VisitFault). IsRightlyUnread before.gates stamp l fault)) log c.visit.ensures.refused)

pub returns-clause-not_asked : goal.returns-clause-not_asked
returns-clause-not_asked c =
    on_err_map c.visit.result (IsTrue true → map settled_entry c.visit.new.judge ≡ map settled_entry c.args.oracle.now) _
    (λ same. oracle-same c.oracle_entries_are_a_judges.ensures.back c.args.oracle.now c.visit.new.judge (same refl)) c.visit.ensures.not_logged
