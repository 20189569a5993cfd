use Rattle.std.proofs.Common.{refl}
use Rattle.weave_data.proofs.Results.{on_ok_map, on_err_map}
use Rattle.version_graph.proofs.Chains.{next_seen, unchanged, applied_graph}
use Rattle.version_graph.proofs.graph.VersionGraph.apply_parts.Goals as goal

pub apply_all-requires-clause-next : goal.apply_all-requires-clause-next
apply_all-requires-clause-next c = next_seen c.args.parts.now c.self.inside.table.entries c.args.self.now c.self.view_is c.requires.next

pub returns-clause-applied : goal.returns-clause-applied
returns-clause-applied c =
    on_ok_map c.apply_all.result _ _ (λ applied. applied_graph c.args.stamp c.args.parts.now c.self.inside.table.entries _ _ _ c.self.view_is refl applied) c.apply_all.ensures.applied

pub returns-clause-refused : goal.returns-clause-refused
returns-clause-refused c =
    on_err_map c.apply_all.result _ _ (λ same. unchanged _ c.self.inside.table.entries _ c.self.view_is same) c.apply_all.ensures.refused
