use Rattle.std.proofs.Common.{Contains, subst}
use Rattle.version_chain.specs.Chains.{ChainView, stamps_of_versions, next_version}
use Rattle.machine_tests.proofs.RowStamps.{among-push}
use Rattle.machine_tests.proofs.chain_tests.apply_all.Goals as goal

pub invariant_of-row : goal.invariant_of-row
invariant_of-row g c =
    let pushed = rw c.expect.ensures at c.push.ensures.items in
    let applied = rw c.expect-2.ensures at c.apply_update.ensures.applied in
    λ one has. among-push c.row.inside.chain.kept (next_version c.args.stamp c.args.ops.now c.row.inside.chain.kept) c.row.inside.stamps.items _ pushed c.row.invariant one (subst (λ (chain : ChainView). Contains (stamps_of_versions chain.kept) one) applied has)
