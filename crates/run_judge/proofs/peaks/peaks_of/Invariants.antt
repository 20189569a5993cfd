use Rattle.std.proofs.Common.{◌≡◌, ◌<◌, ℕ, length}
use Rattle.order_witness.specs.ByNumber.{list_at}
use Rattle.run_judge.specs.Numbers.{ArePeaks}
use Rattle.run_judge.proofs.peaks.peaks_of.Given as goal

abbrev pub invariant-loop-chain : goal.invariant-loop-chain
invariant-loop-chain l = record {
  size : length l.peaks.items ≡ l.chain;
  so_far : (c : ℕ) → c < l.chain → ArePeaks l.phases (list_at l.chains c) (list_at l.peaks.items c);
}
