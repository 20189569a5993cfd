use Rattle.std.proofs.Common.{sym, ◌∙◌}
use Rattle.version_graph.proofs.Chains.{absent, placed}
use Rattle.version_graph.proofs.table.make_place.Goals as goal

pub returns-in_ok-insert-clause-same : goal.returns-in_ok-insert-clause-same
returns-in_ok-insert-clause-same c = placed c.args.vertex _ _ (absent _ (sym c.contains_key.ensures ∙ c.if-not-contains_key.true)) (rw c.new.ensures at c.in_ok-insert.ensures.updates.0)
