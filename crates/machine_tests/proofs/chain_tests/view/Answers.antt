use Rattle.std.proofs.Common.{◌≢◌, ◌∷◌, ◌++◌, List, All, subst}
use Rattle.std.specs.List.{flat_map}
use Rattle.vector_stamp.specs.declared.clock.Stamp.{Stamp}
use Rattle.vector_stamp.specs.Order.{id_of}
use Rattle.vector_stamp.specs.Coherence.{AreCoherent}
use Rattle.version_chain.specs.Chains.{stamps_of_versions}
use Rattle.machine_tests.specs.PairEnds.{ends}
use Rattle.machine_tests.proofs.RowStamps.{others-kept, among-all}
use Rattle.machine_tests.proofs.chain_tests.view.Goals as goal

pub view_at-requires-clause-other_ids : goal.view_at-requires-clause-other_ids
view_at-requires-clause-other_ids g c =
    others-kept (stamps_of_versions c.row.inside.chain.kept) c.row.inside.stamps.items c.args.program c.row.invariant
    (subst (All (λ (event : Stamp). id_of event ≢ id_of c.args.program)) c.as_slice.ensures.value c.expect_coherent.ensures.others)

pub view_at-requires-clause-coherent : goal.view_at-requires-clause-coherent
view_at-requires-clause-coherent g c =
    c.parts_and_unions_are_coherent.ensures.part _ (c.args.program ∷ c.row.inside.stamps.items ++ flat_map ends c.args.judge.now)
    (subst (λ (stamps : List Stamp). AreCoherent (c.args.program ∷ stamps ++ flat_map ends c.args.judge.now)) c.as_slice.ensures.value c.expect_coherent.ensures.coherent)
    (among-all (stamps_of_versions c.row.inside.chain.kept) c.row.inside.stamps.items c.args.program c.row.invariant (flat_map ends c.args.judge.now))
