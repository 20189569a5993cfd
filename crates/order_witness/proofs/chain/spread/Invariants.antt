use Rattle.std.proofs.Common.{◌≡◌, ◌+◌, ◌-◌, length}
use Rattle.order_witness.specs.Marks.{ArePassed, not_marked}
use Rattle.order_witness.specs.Preceding.{direct_steps}
use Rattle.order_witness.specs.Spreading.{IsSpread}
use Rattle.order_witness.proofs.chain.spread.Given as goal

abbrev pub invariant-loop-looked : goal.invariant-loop-looked
invariant-loop-looked l = record {
  size : length l.marked ≡ length l.report.replies;
  passed : ArePassed l.line l.marked l.runs l.passed;
  spread : IsSpread (direct_steps l.report l.befores) l.b l.marked l.found.items l.from.items l.looked;
}

abbrev pub decreases-loop-looked : goal.decreases-loop-looked
decreases-loop-looked l = (length l.found.items + not_marked l.marked + 1) - l.looked
