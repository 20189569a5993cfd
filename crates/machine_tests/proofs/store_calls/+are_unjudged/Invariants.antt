use Rattle.std.proofs.Common.{length}
use Rattle.machine_tests.proofs.store_calls.+are_unjudged.Given as goal

abbrev pub decreases-are_unjudged : goal.decreases-are_unjudged
decreases-are_unjudged l = length l.log.now
