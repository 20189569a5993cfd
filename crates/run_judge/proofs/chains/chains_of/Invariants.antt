use Rattle.std.proofs.Common.{◌≡◌, length}
use Rattle.order_witness.specs.Begun.{is_request_before}
use Rattle.run_judge.specs.Chains.{AreTurnChains}
use Rattle.run_judge.proofs.chains.chains_of.Given as goal

abbrev pub invariant-loop-turn : goal.invariant-loop-turn
invariant-loop-turn l = record {
  size : length l.spots.items ≡ length l.report.replies;
  chains : AreTurnChains (is_request_before l.report) l.turns l.turn l.lists.items l.spots.items;
}
