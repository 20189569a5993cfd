use Rattle.std.proofs.Common.{◌≡◌, ◌<◌, ◌≤◌, ℕ, length}
use Rattle.order_witness.specs.Heads.{item, run_at}
use Rattle.order_witness.specs.Rows.{IsTakenIn}
use Rattle.order_witness.proofs.rows.include.Given as goal

abbrev pub invariant-loop-i : goal.invariant-loop-i
invariant-loop-i l = record {
  size : length l.row ≡ length l.initial.row;
  behind : (i : ℕ) → i < l.i → IsTakenIn (run_at l.runs i) l.place (item l.initial.row i) (item l.other i) (item l.row i);
  ahead : (i : ℕ) → l.i ≤ i → item l.row i ≡ item l.initial.row i;
}
