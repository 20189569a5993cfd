use Rattle.std.proofs.Common.{◌≡◌, ◌≤◌, ◌<◌, ℕ, length}
use Rattle.order_witness.specs.Heads.{item}
use Rattle.order_witness.proofs.chain.fill.Given as goal

abbrev pub invariant-loop : goal.invariant-loop
invariant-loop l = record {
  size : length l.numbers.items ≡ l.counter;
  front : (k : ℕ) → k < length l.initial.numbers.items → item l.numbers.items k ≡ item l.initial.numbers.items k;
  added : (k : ℕ) → length l.initial.numbers.items ≤ k → k < l.counter → item l.numbers.items k ≡ l.number;
}
