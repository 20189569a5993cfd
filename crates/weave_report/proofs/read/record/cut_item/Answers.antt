use Rattle.std.proofs.Common.{sym}
use Rattle.weave_report.specs.Marks.{is_item_mark}
use Rattle.weave_report.proofs.CutAtMark.{cut_first-at, cut_first-none}
use Rattle.weave_report.proofs.read.record.cut_item.Goals as goal

pub returns-in-Some : goal.returns-in-Some
returns-in-Some c = sym (cut_first-at is_item_mark c.args.word.now c.in-Some.at (sym c.in-Some.ensures))

pub returns-in-None : goal.returns-in-None
returns-in-None c = sym (cut_first-none is_item_mark c.args.word.now (sym c.in-None.ensures))
