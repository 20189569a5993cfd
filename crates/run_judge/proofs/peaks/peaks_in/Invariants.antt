use Rattle.std.proofs.Common.{◌≡◌, ◌<◌, ◌-◌, ℕ, length}
use Rattle.order_witness.specs.Heads.{item}
use Rattle.run_judge.specs.Numbers.{IsPeak}
use Rattle.run_judge.proofs.peaks.peaks_in.Given as goal

abbrev pub invariant-loop-place : goal.invariant-loop-place
invariant-loop-place l = record {
  size : length l.peaks.items ≡ l.place;
  so_far : (k : ℕ) → k < l.place → IsPeak l.phases l.chain k (item l.peaks.items k);
  peak : IsPeak l.phases l.chain (l.place - 1) l.peak;
}
