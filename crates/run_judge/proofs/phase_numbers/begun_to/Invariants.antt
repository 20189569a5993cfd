use Rattle.std.proofs.Common.{◌≡◌, ◌<◌, ◌≤◌, ℕ, length}
use Rattle.std.specs.Prelude.{count_by, nat_le}
use Rattle.order_witness.specs.Heads.{item}
use Rattle.run_judge.proofs.NumberLaws.{begun_before}
use Rattle.run_judge.proofs.phase_numbers.begun_to.Given as goal

abbrev pub invariant-loop-request : goal.invariant-loop-request
invariant-loop-request l = record {
  size : length l.phases.items ≡ l.request;
  sum : l.phase ≡ begun_before l.starts l.request;
  within : l.phase ≤ length l.starts;
  so_far : (r : ℕ) → r < l.request → item l.phases.items r ≡ count_by (λ before. nat_le before r) l.starts;
}
