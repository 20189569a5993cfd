use Rattle.std.proofs.Common.{length}
use Rattle.machine_tests.proofs.test_judge.+all_precede.Given as goal

abbrev pub decreases-all_precede : goal.decreases-all_precede
decreases-all_precede l = length l.earlier.now
