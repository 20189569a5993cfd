use Rattle.std.proofs.Common.{◌≡◌, ◌≢◌, ◌++◌, ◌∷◌, List, All, ap, subst, ◌∙◌}
use Rattle.std.specs.List.{flat_map}
use Rattle.vector_stamp.specs.declared.clock.Stamp.{Stamp}
use Rattle.vector_stamp.specs.Order.{id_of}
use Rattle.vector_stamp.specs.Coherence.{AreCoherent}
use Rattle.machine_tests.specs.PairEnds.{ends}
use Rattle.machine_tests.specs.ArrivedStamps.{arrived_stamps}
use Rattle.machine_tests.proofs.ShardStamps.{all_others, are_coherent_too}
use Rattle.machine_tests.proofs.LogSteps.{gates-stay}
use Rattle.machine_tests.proofs.shard_row.visit_for.Goals as goal

pub expect_kept-requires : goal.expect_kept-requires
expect_kept-requires g c = c.as_slice-2.ensures.value ∙ c.stamps-updates.ensures ∙ ap arrived_stamps c.log.ensures.log

pub visit-requires-clause-other_ids : goal.visit-requires-clause-other_ids
visit-requires-clause-other_ids g c =
    let updates : c.as_slice.result.now ≡ arrived_stamps c.row.inside.shard.log = c.as_slice.ensures.value ∙ c.stamps-updates.ensures ∙ ap arrived_stamps c.log.ensures.log in
    all_others c.args.vertex c.row.inside.shard.log c.args.program (subst (All (λ (event : Stamp). id_of event ≢ id_of c.args.program)) updates c.expect_coherent.ensures.others)

pub visit-requires-clause-coherent : goal.visit-requires-clause-coherent
visit-requires-clause-coherent g c =
    let updates : c.as_slice.result.now ≡ arrived_stamps c.row.inside.shard.log = c.as_slice.ensures.value ∙ c.stamps-updates.ensures ∙ ap arrived_stamps c.log.ensures.log in
    are_coherent_too c.args.vertex c.row.inside.shard.log c.args.program (flat_map ends c.args.judge.now) (subst (λ (stamps : List Stamp). AreCoherent (c.args.program ∷ stamps ++ flat_map ends c.args.judge.now)) updates c.expect_coherent.ensures.coherent)

pub invariant_of-row : goal.invariant_of-row
invariant_of-row g c = gates-stay _ _ _ _ c.visit.result c.visit.ensures.entry c.visit.ensures.unchanged ∙ c.row.invariant
