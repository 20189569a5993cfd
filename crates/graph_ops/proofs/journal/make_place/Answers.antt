use Rattle.std.proofs.Common.{sym, ◌∙◌}
use Rattle.graph_ops.proofs.States.{placed, absent, covers_written}
use Rattle.graph_ops.proofs.journal.make_place.Goals as goal

pub returns-in_ok-insert-clause-others : goal.returns-in_ok-insert-clause-others
returns-in_ok-insert-clause-others c = covers_written c.args.v _ _ _ c.in_ok-insert.ensures.updates.0

pub returns-in_ok-insert-clause-same : goal.returns-in_ok-insert-clause-same
returns-in_ok-insert-clause-same c = placed c.args.v _ _ (absent _ (sym c.contains_key.ensures ∙ c.if-not-contains_key.true)) c.in_ok-insert.ensures.updates.0
