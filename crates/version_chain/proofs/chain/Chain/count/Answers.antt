use Rattle.std.proofs.Common.{ap, arith}
use Rattle.version_chain.specs.Chains.{update_count}
use Rattle.version_chain.proofs.Histories.{kept_length}
use Rattle.version_chain.proofs.chain.Chain.count.Goals as goal

pub returns : goal.returns
returns c =
    let seen = ap update_count c.self.view_is in
    omega (arith, seen, kept_length c.self.inside.parts c.self.inside.dropped c.self.inside.stamps.items, c.len.ensures, c.self.inside.stamps.ok.0)
