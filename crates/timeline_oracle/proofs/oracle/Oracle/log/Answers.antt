use Rattle.std.proofs.Common.{List, subst}
use Rattle.vector_stamp.specs.Precedence.{IsAcyclic}
use Rattle.weave_entries.specs.declared.oracle_log.OracleEntry.{OracleEntry}
use Rattle.timeline_oracle.specs.Log.{pairs_of_log}
use Rattle.timeline_oracle.proofs.oracle.Oracle.log.Goals as goal

pub returns-clause-no_cycle : goal.returns-clause-no_cycle
returns-clause-no_cycle c =
    subst (λ (log : List OracleEntry). IsAcyclic (pairs_of_log log)) c.self.view_is (c.an_oracle_log_has_no_cycle.ensures.acyclic c.self.inside.log.items c.self.invariant.1)
