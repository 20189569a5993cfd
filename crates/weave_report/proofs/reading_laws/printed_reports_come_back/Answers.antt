use Rattle.weave_report.proofs.ReportComesBack.{printed_comes_back}
use Rattle.weave_report.proofs.reading_laws.printed_reports_come_back.Goals as goal

pub returns : goal.returns
returns c = (printed_comes_back c.texts_keep_the_laws.ensures)
