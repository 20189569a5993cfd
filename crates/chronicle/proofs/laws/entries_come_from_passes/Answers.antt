use Rattle.chronicle.proofs.Authors.{comes_from}
use Rattle.chronicle.proofs.laws.entries_come_from_passes.Goals as goal

pub returns : goal.returns
returns g c = comes_from
