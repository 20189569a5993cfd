use Rattle.std.proofs.Common.{sym, ◌∙◌}
use Rattle.weave_data.proofs.Stored.{stored}
use Rattle.weave_data.proofs.name.Name.parse.Goals as goal

pub invariant_of-result : goal.invariant_of-result
invariant_of-result c = stored _ _ c.copy_from_slice.ensures.after (sym c.names.ensures ∙ c.if-not-names.false)
