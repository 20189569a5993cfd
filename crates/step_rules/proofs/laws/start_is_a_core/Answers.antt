use Rattle.step_rules.proofs.Starting.{start-is-core}
use Rattle.step_rules.proofs.laws.start_is_a_core.Goals as goal

pub returns : goal.returns
returns c = start-is-core c.empty_logs_are_an_account.ensures
