use Rattle.std.proofs.Common.{◌≡◌, ◌<◌, ℕ, false}
use Rattle.order_witness.specs.Heads.{item, run_at}
use Rattle.order_witness.specs.Rows.{is_below_last}
use Rattle.order_witness.proofs.rows.counts.Given as goal

abbrev pub invariant-loop-i : goal.invariant-loop-i
invariant-loop-i l = (j : ℕ) → j < l.i → is_below_last l.report l.line (run_at l.runs j) (item l.row j) l.request ≡ false
