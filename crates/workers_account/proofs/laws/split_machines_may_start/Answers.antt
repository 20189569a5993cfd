use Rattle.workers_account.proofs.MayStart.{may-start}
use Rattle.workers_account.proofs.laws.split_machines_may_start.Goals as goal

pub returns : goal.returns
returns c = may-start c.phases_start_by_their_laws.ensures
