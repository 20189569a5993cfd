use Rattle.std.proofs.Common.{◌≡◌, ℕ, length, []}
use Rattle.program_defs.specs.Labels.{row_in}
use Rattle.priced_path.proofs.rows.empty_rows.Given as goal

abbrev pub invariant-loop-at : goal.invariant-loop-at
invariant-loop-at l = record {
  len : length l.rows.items ≡ l._at;
  empty : (i : ℕ) → row_in l.rows.items i ≡ [];
}
