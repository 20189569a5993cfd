use Rattle.std.proofs.Common.{◌≡◌, ◌+◌, length}
use Rattle.order_witness.proofs.Numbered.{HaveRefusedTo}
use Rattle.order_witness.proofs.refusal_marks.refusals_by_number.Given as goal

abbrev pub invariant-loop-place : goal.invariant-loop-place
invariant-loop-place l = record {
  size : length l.table ≡ length l.replies + 1;
  so_far : HaveRefusedTo l.place l.replies l.table;
}
