use Rattle.weave_report.specs.Reading.{report_in}
use Rattle.weave_report.proofs.read.read_named.Goals as goal

pub returns : goal.returns
unfolding report_in
returns c = c.after_lines.ensures
