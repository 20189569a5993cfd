use Rattle.std.proofs.Common.{◌≡◌, Some, None, List, sym, ap, subst, ◌∙◌}
use Rattle.std.specs.Prelude.{option_copied, All, IsTrue}
use Rattle.std.proofs.lemmas.Option.{same_Some}
use Rattle.graph_ops.specs.declared.part.Part.{Part}
use Rattle.graph_ops.specs.VertexOps.{none_refused}
use Rattle.weave_entries.specs.ShardReplay.{arrived_at, head_of, state_of_updates, updates_of}
use Rattle.weave_entries.specs.ShardRules.{PassesAt}
use Rattle.weave_entries.specs.declared.shard_log.ShardEntry.{ShardEntry}
use Rattle.machine_tests.proofs.shard_row.expect_head_passing.Goals as goal

pub returns-in_default : goal.returns-in_default
returns-in_default g c head is =
    let found : head_of c.args.gate c.args.shard.now.log ≡ None = (λ i. arrived_at c.args.gate (sym c.next_number-next.ensures.number i) (sym c.log-log.ensures.log i)) ∙ sym c.arrived.ensures ∙ ap option_copied c.in_default.is in
    let never : None ≡ Some head = sym found ∙ is in absurd cc

pub returns : goal.returns
returns g c head is =
    let found : head_of c.args.gate c.args.shard.now.log ≡ Some c.in-Some.head.now = (λ i. arrived_at c.args.gate (sym c.next_number-next.ensures.number i) (sym c.log-log.ensures.log i)) ∙ sym c.arrived.ensures ∙ ap option_copied c.in-Some.is in
    let same : c.in-Some.head.now ≡ head = same_Some _ _ (sym found ∙ is) in
    let parts : All (λ (part : Part). IsTrue (none_refused part.ops (state_of_updates (updates_of part.vertex c.log-log.result.now)))) c.in-Some.head.now.parts = subst (All (λ (part : Part). IsTrue (none_refused part.ops (state_of_updates (updates_of part.vertex c.log-log.result.now))))) c.as_slice.ensures c.expect_passing.ensures in
    subst (PassesAt c.args.shard.now.log) same (subst (λ (log : List ShardEntry). PassesAt log c.in-Some.head.now) c.log-log.ensures.log parts)
