use Rattle.weave_report.proofs.ReportClean.{lines_of_report}
use Rattle.weave_report.proofs.reading_laws.printed_text_is_text.Goals as goal

pub returns : goal.returns
returns c script report tells typed_script of typed = record { lines = lines_of_report c.texts_keep_the_laws.ensures script report typed_script of typed; of_script = of; typed = typed }
