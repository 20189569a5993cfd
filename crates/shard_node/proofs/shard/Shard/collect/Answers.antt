use Rattle.std.proofs.Common.{◌≡◌, ◌++◌, ◌∷◌, [], List, refl, ap, subst, ◌∙◌}
use Rattle.weave_entries.specs.declared.shard_log.ShardEntry.{ShardEntry}
use Rattle.weave_entries.specs.declared.shard_log.ShardDeed.TheVariants.{Collected}
use Rattle.weave_entries.specs.ShardReplay.{last_of, meet_of_all, bound_of}
use Rattle.shard_node.specs.Shards.{ShardView, AddsEntry}
use Rattle.shard_node.proofs.Keeping.{keeps_collected}
use Rattle.shard_node.proofs.LowMarks.{last-still, marks-still, bound-is}
use Rattle.shard_node.proofs.shard.Shard.collect.Goals as goal

pub invariant_of-self-2 : goal.invariant_of-self-2
invariant_of-self-2 c =
    let log = c.self.inside.log.items in
    let bound : c.meet_of_all-bound.result ≡ bound_of c.self.inside.gates log = c.meet_of_all-bound.ensures ∙ ap meet_of_all c.as_slice.ensures.value ∙ bound-is _ _ _ c.self.invariant.1 in
    let entry : ShardEntry = record { author = c.args.author; deed = Collected c.meet_of_all-bound.result } in
    let longer : c.push_reserved.new.self.items ≡ log ++ entry ∷ [] = c.push_reserved.ensures.items ∙ ap (λ (l : List ShardEntry). l ++ entry ∷ []) c.reserve.ensures.items in (
      keeps_collected _ _ _ _ c.self.invariant.0 c.args.author c.meet_of_all-bound.result c.collect_if.new.graph _ bound c.collect_if.ensures longer,
      marks-still _ _ _ c.self.invariant.1 _ (λ gate. ap (last_of gate) longer ∙ last-still log entry refl refl gate),
    )

pub returns-clause-entry : goal.returns-clause-entry
returns-clause-entry c =
    let log = c.self.inside.log.items in
    let bound : c.meet_of_all-bound.result ≡ bound_of c.self.inside.gates log = c.meet_of_all-bound.ensures ∙ ap meet_of_all c.as_slice.ensures.value ∙ bound-is _ _ _ c.self.invariant.1 in
    let next : ShardView = record { number = c.self.inside.number; gates = c.self.inside.gates; log = c.push_reserved.new.self.items } in
    subst (λ (v : ShardView). AddsEntry v next c.args.author (Collected (bound_of v.gates v.log))) c.self.view_is
    (record {
      log = c.push_reserved.ensures.items ∙ (λ i. c.reserve.ensures.items i ++ record { author = c.args.author; deed = Collected (bound i) } ∷ []);
      number = refl;
      gates = refl;
    })
