use Rattle.std.proofs.Common.{arith}
use Rattle.backing_store.proofs.Committing.{commits_le}
use Rattle.backing_store.proofs.store.Store.commits.Goals as goal

pub returns-clause-small : goal.returns-clause-small
returns-clause-small c = omega (arith, c.self.invariant.made_is, commits_le c.self.inside.log.items, c.self.inside.log.ok.0, c.self.inside.log.ok.1, c.self.inside.log.small)
