use Rattle.oracle_lock.proofs.Settling.{known-begun, known-coherent}
use Rattle.oracle_lock.proofs.laws.known_events_are_begun.Goals as goal

pub returns-clause-begun : goal.returns-clause-begun
returns-clause-begun c = λ shards gates log kept. known-begun c.ends_are_of_pairs.ensures.no_others gates log kept.refers

pub returns-clause-coherent : goal.returns-clause-coherent
returns-clause-coherent c = known-coherent c.ends_are_of_pairs.ensures.no_others c.begun_stamps_are_coherent.ensures.seen
    c.parts_and_unions_are_coherent.ensures.part
