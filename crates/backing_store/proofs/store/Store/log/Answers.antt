use Rattle.std.proofs.Common.{length, ap, subst, arith}
use Rattle.weave_entries.specs.StoreRule.{IsStoreLog}
use Rattle.backing_store.proofs.store.Store.log.Goals as goal

pub returns-clause-small : goal.returns-clause-small
returns-clause-small c = omega (arith, ap length c.self.view_is, c.self.inside.log.ok.0, c.self.inside.log.ok.1, c.self.inside.log.small)

pub returns-clause-right : goal.returns-clause-right
returns-clause-right c = subst IsStoreLog c.self.view_is c.self.invariant.right
