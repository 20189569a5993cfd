use Rattle.std.proofs.Common.{rules}
use Rattle.machine_tests.proofs.RowStamps.{among-back}
use Rattle.machine_tests.proofs.chain_tests.take_back.Goals as goal

pub invariant_of-row : goal.invariant_of-row
invariant_of-row g c = among-back c.row.inside.chain c.take_back.new.self c.row.inside.stamps.items (search rules) c.take_back.ensures c.row.invariant
