use Rattle.std.specs.Prelude.{◌++◌}
use Rattle.weave_report.specs.ReportText.{report_text}
use Rattle.weave_script.specs.ScriptLines.{script_text}
use Rattle.weave_script.proofs.CheckLaws.{printed_check, script_told, script_typed}
use Rattle.weave_script.proofs.Clean.{script_is_clean}
use Rattle.weave_script.proofs.check_laws.printed_checks_come_back.Goals as goal

pub returns-clause-text : goal.returns-clause-text
returns-clause-text c = λ script report is of typed.
    printed_check (record { lines = c.clean_lines_come_back.ensures.lines; kept = c.clean_lines_come_back.ensures.kept }) script report
    (script_is_clean (record { name = c.words_are_clean.ensures.name; number = c.words_are_clean.ensures.number }) script is) is
    (c.printed_text_is_text.ensures script report (script_told script is) (script_typed script is) of typed)

pub returns-clause-read : goal.returns-clause-read
returns-clause-read c = λ script report is of typed short.
    c.checks_are_read.ensures.every_text (script_text script ++ report_text script report) script report short (returns-clause-text c script report is of typed)
