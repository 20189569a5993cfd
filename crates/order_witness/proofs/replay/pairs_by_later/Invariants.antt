use Rattle.std.proofs.Common.{length}
use Rattle.order_witness.proofs.Visiting.{HavePairsTo}
use Rattle.order_witness.proofs.replay.pairs_by_later.Given as goal

abbrev pub invariant-loop-place : goal.invariant-loop-place
invariant-loop-place l = HavePairsTo l.place (length l.report.replies) l.report.pairs l.table
