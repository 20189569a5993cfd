use Rattle.workers_account.proofs.OfPhase.{begun-within}
use Rattle.workers_account.proofs.laws.begun_requests_are_of_the_phase.Goals as goal

pub returns : goal.returns
returns c = λ shared script number start upto from at path gained keeps has went log r stamp h.
    begun-within c.hands_read_by_their_laws.ensures c.begun_and_replied_are_decided.ensures.replied shared script number start upto
    path from at gained keeps has went log r stamp h
