use Rattle.std.proofs.Common.{◌≡◌, ◌<◌, ℕ, length, take}
use Rattle.report_rules.specs.Lookups.{is_in}
use Rattle.order_witness.specs.Begun.{pairs_lead}
use Rattle.order_witness.specs.ByNumber.{list_at}
use Rattle.run_judge.proofs.earlier_ends.earlier_ends.Given as goal

abbrev pub invariant-loop-pair : goal.invariant-loop-pair
invariant-loop-pair l = record {
  size : length l.ends.items ≡ length l.replies;
  so_far : (e r : ℕ) → r < length l.replies → is_in e (list_at l.ends.items r) ≡ pairs_lead l.replies (take l.pair-index l.pairs) e r;
}
