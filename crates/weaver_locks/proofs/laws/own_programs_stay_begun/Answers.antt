use Rattle.weaver_locks.proofs.OwnVisits.{program-begins, program-seen, program-stays}
use Rattle.weaver_locks.proofs.laws.own_programs_stay_begun.Goals as goal

pub returns : goal.returns
returns c = record { begins = program-begins; on = program-stays; seen = program-seen }
