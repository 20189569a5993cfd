use Rattle.std.proofs.Common.{length}
use Rattle.machine_tests.proofs.test_judge.+are_others.Given as goal

abbrev pub decreases-are_others : goal.decreases-are_others
decreases-are_others l = length l.events.now
