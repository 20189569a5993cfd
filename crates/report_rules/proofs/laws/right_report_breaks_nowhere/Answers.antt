use Rattle.report_rules.proofs.JudgementLaws.{breaks_nowhere}
use Rattle.report_rules.proofs.laws.right_report_breaks_nowhere.Goals as goal

pub returns : goal.returns
returns c = breaks_nowhere
