use Rattle.vector_stamp.proofs.Ticks.{tick-before}
use Rattle.vector_stamp.proofs.laws.ticks_rise.Goals as goal

pub returns : goal.returns
returns c = tick-before
