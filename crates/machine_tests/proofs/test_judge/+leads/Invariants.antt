use Rattle.std.proofs.Common.{length}
use Rattle.machine_tests.proofs.test_judge.+leads.Given as goal

abbrev pub decreases-leads : goal.decreases-leads
decreases-leads l = length l.pairs.now
