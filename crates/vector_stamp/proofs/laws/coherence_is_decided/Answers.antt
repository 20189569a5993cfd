use Rattle.vector_stamp.proofs.Coherent.{coherent_tested, tested_coherent}
use Rattle.vector_stamp.proofs.laws.coherence_is_decided.Goals as goal

pub returns-clause-tested : goal.returns-clause-tested
returns-clause-tested c = λ stamps. (coherent_tested stamps, tested_coherent stamps)
