use Rattle.vector_stamp.proofs.Together.{part-coherent, two-coherent, by_homes-coherent}
use Rattle.vector_stamp.proofs.laws.parts_and_unions_are_coherent.Goals as goal

pub returns : goal.returns
returns c = record { part = part-coherent; two = two-coherent; by_homes = by_homes-coherent }
