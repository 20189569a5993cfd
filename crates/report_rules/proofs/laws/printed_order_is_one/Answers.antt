use Rattle.report_rules.proofs.PrintedLaws.{one_order}
use Rattle.report_rules.proofs.laws.printed_order_is_one.Goals as goal

pub returns : goal.returns
returns c = one_order
