use Rattle.std.proofs.Common.{◌≡◌, ◌≤◌, ◌<◌, ℕ, length}
use Rattle.order_witness.specs.Heads.{IsAdvanced, run_at}
use Rattle.order_witness.proofs.heads.advance.Given as goal

abbrev pub invariant-loop-run : goal.invariant-loop-run
invariant-loop-run l = record {
  size : length l.runs ≡ length l.initial.runs;
  behind : (i : ℕ) → i < l.run-index → IsAdvanced l.line l.done (run_at l.initial.runs i) (run_at l.runs i);
  ahead : (i : ℕ) → l.run-index ≤ i → run_at l.runs i ≡ run_at l.initial.runs i;
}
