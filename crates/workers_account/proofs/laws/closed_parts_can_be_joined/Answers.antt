use Rattle.workers_account.proofs.PhaseEnds.{phase-end}
use Rattle.workers_account.proofs.laws.closed_parts_can_be_joined.Goals as goal

pub returns : goal.returns
returns c = phase-end c.phases_keep_their_laws.ensures c.values_stay_by_their_laws.ensures
