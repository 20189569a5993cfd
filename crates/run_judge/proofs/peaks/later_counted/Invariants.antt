use Rattle.std.proofs.Common.{◌<◌, ◌≤◌, ◌-◌, ℕ}
use Rattle.order_witness.specs.ByNumber.{list_at}
use Rattle.order_witness.specs.Heads.{item}
use Rattle.run_judge.proofs.peaks.later_counted.Given as goal

abbrev pub invariant-loop-chain : goal.invariant-loop-chain
invariant-loop-chain l = (c : ℕ) → c < l.chain → 0 < item l.row c → item l.phases (item (list_at l.peaks c) (item l.row c - 1)) ≤ l.phase
