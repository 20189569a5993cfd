use Rattle.oracle_lock.proofs.Settling.{log-is, log-keeps}
use Rattle.oracle_lock.proofs.laws.settling_keeps.Goals as goal

pub returns-clause-log : goal.returns-clause-log
returns-clause-log c = log-is c.oracle_entries_are_a_judges.ensures.back

pub returns-clause-kept : goal.returns-clause-kept
returns-clause-kept c = log-keeps c.oracle_entries_are_a_judges.ensures.back
