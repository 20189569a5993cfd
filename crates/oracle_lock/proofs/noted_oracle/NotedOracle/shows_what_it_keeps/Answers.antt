use Rattle.std.proofs.Common.{subst}
use Rattle.oracle_lock.specs.Seen.{gates_noted, OracleIsKept, OracleView}
use Rattle.oracle_lock.proofs.noted_oracle.NotedOracle.shows_what_it_keeps.Goals as goal

pub returns : goal.returns
returns c = subst (λ (v : OracleView). OracleIsKept v.shards (gates_noted v.gates) v.oracle) c.self.view_is c.self.invariant
