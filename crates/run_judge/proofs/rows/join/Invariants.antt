use Rattle.std.proofs.Common.{◌≡◌, ◌<◌, ◌≤◌, ℕ, length}
use Rattle.order_witness.specs.Heads.{item}
use Rattle.run_judge.specs.Rows.{IsJoinedCount}
use Rattle.run_judge.proofs.rows.join.Given as goal

abbrev pub invariant-loop-index : goal.invariant-loop-index
invariant-loop-index l = record {
  size : length l.row.items ≡ length l.initial.row.items;
  behind : (c : ℕ) → c < l.index → IsJoinedCount l.chain l.count c (item l.initial.row.items c) (item l.other c) (item l.row.items c);
  ahead : (c : ℕ) → l.index ≤ c → item l.row.items c ≡ item l.initial.row.items c;
}
