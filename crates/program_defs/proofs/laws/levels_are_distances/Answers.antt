use Rattle.program_defs.proofs.Levels.{levels-are-distances}
use Rattle.program_defs.proofs.laws.levels_are_distances.Goals as goal

pub returns : goal.returns
returns c = λ n graph pass from v there. levels-are-distances graph pass from n v there
