use Rattle.std.proofs.Common.{◌≡◌, take}
use Rattle.std.specs.List.{filter}
use Rattle.report_rules.specs.Lookups.{may_be_listed}
use Rattle.order_witness.proofs.printed_order.listed.Given as goal

abbrev pub invariant-loop-turn : goal.invariant-loop-turn
invariant-loop-turn l = l.order.items ≡ filter (may_be_listed l.report) (take l.turn-index l.turns)
