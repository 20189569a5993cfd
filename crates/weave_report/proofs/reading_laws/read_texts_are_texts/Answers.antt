use Rattle.weave_text.specs.Cutting.{kept_lines, lines_of}
use Rattle.weave_report.specs.Reading.{report_in, report_start}
use Rattle.weave_report.proofs.ReportRead.{all_read_is_told, kept_of_lines}
use Rattle.weave_report.proofs.ReportComesBack.{comes_back, refused_is_no_text}
use Rattle.weave_report.proofs.reading_laws.read_texts_are_texts.Goals as goal

pub returns-clause-read : goal.returns-clause-read
unfolding report_in
returns-clause-read c script first_line bytes report tells typed e =
    let told = all_read_is_told c.texts_keep_the_laws.ensures script (kept_lines (lines_of bytes)) report tells (kept_of_lines c.texts_keep_the_laws.ensures script first_line report_start (lines_of bytes) report e) in
    record { lines = told.0; of_script = told.1; typed = told.2 }

pub returns-clause-complete : goal.returns-clause-complete
returns-clause-complete c script first_line bytes report tells typed text = comes_back c.texts_keep_the_laws.ensures script first_line bytes report tells typed text.of_script text.typed text.lines

pub returns-clause-refused : goal.returns-clause-refused
returns-clause-refused c = (refused_is_no_text c.texts_keep_the_laws.ensures)
