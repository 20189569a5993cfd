use Rattle.std.proofs.Common.{Contains, subst}
use Rattle.version_chain.specs.Chains.{ChainView, stamps_of_versions}
use Rattle.machine_tests.proofs.RowStamps.{among-drop}
use Rattle.machine_tests.proofs.chain_tests.collect.Goals as goal

pub invariant_of-row : goal.invariant_of-row
invariant_of-row c = λ one has. among-drop _ c.row.inside.chain.kept c.row.inside.stamps.items c.row.invariant one (subst (λ (chain : ChainView). Contains (stamps_of_versions chain.kept) one) c.collect.ensures.kept has)
