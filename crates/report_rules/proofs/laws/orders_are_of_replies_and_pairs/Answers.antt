use Rattle.report_rules.proofs.SameOrder.{order-same}
use Rattle.report_rules.proofs.laws.orders_are_of_replies_and_pairs.Goals as goal

pub returns : goal.returns
returns c = order-same
