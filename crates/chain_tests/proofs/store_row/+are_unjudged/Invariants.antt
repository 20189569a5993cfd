use Rattle.std.proofs.Common.{length}
use Rattle.chain_tests.proofs.store_row.+are_unjudged.Given as goal

abbrev pub decreases-are_unjudged : goal.decreases-are_unjudged
decreases-are_unjudged l = length l.log.now
