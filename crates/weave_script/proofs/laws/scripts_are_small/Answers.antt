use Rattle.weave_script.proofs.SmallScripts.{few_requests, small_transactions, within-limits}
use Rattle.weave_script.proofs.laws.scripts_are_small.Goals as goal

pub returns-clause-requests : goal.returns-clause-requests
returns-clause-requests c = few_requests

pub returns-clause-operations : goal.returns-clause-operations
returns-clause-operations c = small_transactions

pub returns-clause-limits : goal.returns-clause-limits
returns-clause-limits c = within-limits
