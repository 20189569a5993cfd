use Rattle.std.proofs.Common.{◌≡◌, ◌+◌, ◌<◌, ◌^◌, length}
use Rattle.weave_text.specs.Cutting.{lines_of}
use Rattle.weave_report.specs.Reading.{after_lines, report_start}
use Rattle.weave_report.proofs.read.after_lines.Given as goal

-- reading what is left gives the same as reading all
abbrev pub invariant-loop-line : goal.invariant-loop-line
invariant-loop-line l = record {
  same : after_lines l.script l.number l.reading (lines_of l.left) ≡ after_lines l.script l.first_line report_start (lines_of l.bytes);
  room : l.number + length l.left < 2 ^ 32;
}

abbrev pub decreases-loop-line : goal.decreases-loop-line
decreases-loop-line l = length l.left
