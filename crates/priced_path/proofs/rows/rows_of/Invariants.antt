use Rattle.std.proofs.Common.{take}
use Rattle.priced_path.specs.Kept.{AreRowsKept}
use Rattle.priced_path.proofs.rows.rows_of.Given as goal

abbrev pub invariant-loop-edge : goal.invariant-loop-edge
invariant-loop-edge l = AreRowsKept l.vertices (take l.edge-index l.edges) l.rows.items
