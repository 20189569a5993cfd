use Rattle.std.proofs.Common.{sym, ap, ◌∙◌}
use Rattle.weave_report.specs.Reading.{report_start}
use Rattle.weave_report.proofs.ReportRead.{after_kept}
use Rattle.weave_report.proofs.ReportAgain.{report_again, same_end}
use Rattle.weave_report.proofs.reading_laws.text_is_of_one_report.Goals as goal

pub returns : goal.returns
returns c script bytes a b tells typed one two =
    same_end c.texts_keep_the_laws.ensures a b (sym (ap ((after_kept c.texts_keep_the_laws.ensures) script report_start) one.lines ∙ report_again c.texts_keep_the_laws.ensures script a tells typed one.of_script one.typed)
    ∙ ap ((after_kept c.texts_keep_the_laws.ensures) script report_start) two.lines ∙ report_again c.texts_keep_the_laws.ensures script b tells typed two.of_script two.typed)
