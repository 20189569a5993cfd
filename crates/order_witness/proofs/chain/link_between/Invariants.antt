use Rattle.std.proofs.Common.{◌≡◌, ◌<◌, ℕ, Some, false}
use Rattle.std.specs.Prelude.{slice_get}
use Rattle.report_rules.specs.declared.report.Pair.{Pair}
use Rattle.order_witness.specs.Begun.{is_pair_between}
use Rattle.order_witness.proofs.chain.link_between.Given as goal

abbrev pub invariant-loop-place : goal.invariant-loop-place
invariant-loop-place l = (k : ℕ) (pair : Pair) → k < l.place → slice_get l.pair-items k ≡ Some pair → is_pair_between l.replies l.a l.b pair ≡ false
