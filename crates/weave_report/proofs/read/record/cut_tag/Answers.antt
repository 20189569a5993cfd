use Rattle.std.proofs.Common.{sym}
use Rattle.weave_report.specs.Marks.{is_equals}
use Rattle.weave_report.proofs.CutAtMark.{cut_first-at, cut_first-none}
use Rattle.weave_report.proofs.read.record.cut_tag.Goals as goal

pub returns-in-Some : goal.returns-in-Some
returns-in-Some c = sym (cut_first-at is_equals c.args.word.now c.in-Some.at (sym c.in-Some.ensures))

pub returns-in-None : goal.returns-in-None
returns-in-None c = sym (cut_first-none is_equals c.args.word.now (sym c.in-None.ensures))
