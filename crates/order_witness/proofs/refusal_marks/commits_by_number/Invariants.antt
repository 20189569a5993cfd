use Rattle.std.proofs.Common.{◌≡◌, ◌+◌, ◌<◌, ℕ, length, take}
use Rattle.order_witness.specs.ByNumber.{list_at}
use Rattle.order_witness.specs.Refusals.{numbered_in}
use Rattle.order_witness.proofs.refusal_marks.commits_by_number.Given as goal

abbrev pub invariant-loop-reply : goal.invariant-loop-reply
invariant-loop-reply l = record {
  size : length l.table ≡ length l.replies + 1;
  so_far : (n : ℕ) → n < length l.replies + 1 → list_at l.table n ≡ numbered_in n (take l.reply-index l.replies);
}
