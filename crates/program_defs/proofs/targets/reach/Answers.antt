use Rattle.std.proofs.Common.{sym, ◌∙◌}
use Rattle.program_defs.proofs.NewNames.{known-same}
use Rattle.program_defs.proofs.targets.reach.Goals as goal

pub returns-then-contains-clause-reached : goal.returns-then-contains-clause-reached
returns-then-contains-clause-reached c = λ v. known-same _ _ v (sym c.contains.ensures ∙ c.if-contains.true)
