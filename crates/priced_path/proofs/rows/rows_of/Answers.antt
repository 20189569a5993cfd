use Rattle.std.proofs.Common.{sym, subst, List, take}
use Rattle.priced_path.specs.Kept.{AreRowsKept}
use Rattle.priced_path.specs.declared.kept_edge.KeptEdge.{KeptEdge}
use Rattle.priced_path.proofs.RowsMade.{rows-begin, one-more}
use Rattle.priced_path.proofs.rows.rows_of.Goals as goal

pub loop-edge-init : goal.loop-edge-init
loop-edge-init c = rows-begin c.args.vertices.now c.in_ok-rows.rows.items c.in_ok-rows.ensures.len c.in_ok-rows.ensures.empty

pub loop-edge-preserved : goal.loop-edge-preserved
loop-edge-preserved c =
    let next = one-more c.args.edges.now c.loop-edge.edge-index c.edge-item.result c.loop-edge-test.true c.edge-item.is in
    subst (λ (edges : List KeptEdge). AreRowsKept c.args.vertices.now edges c.add_edge.new.rows.items) (sym next) (c.in_ok-add_edge.ensures (take c.loop-edge.edge-index c.args.edges.now) c.loop-edge.invariant)
