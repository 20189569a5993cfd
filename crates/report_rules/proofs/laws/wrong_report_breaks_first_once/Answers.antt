use Rattle.report_rules.proofs.JudgementLaws.{one_verdict}
use Rattle.report_rules.proofs.laws.wrong_report_breaks_first_once.Goals as goal

pub returns : goal.returns
returns c = one_verdict
