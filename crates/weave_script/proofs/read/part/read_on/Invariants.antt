use Rattle.std.proofs.Common.{◌≡◌, ◌+◌, ◌≤◌, length}
use Rattle.weave_text.specs.Cutting.{lines_of}
use Rattle.weave_script.specs.Indexed.{IsReaderReady}
use Rattle.weave_script.specs.ReadText.{read_on}
use Rattle.weave_script.specs.Reading.{start}
use Rattle.weave_script.proofs.read.part.read_on.Given as goal

abbrev pub decreases-loop-first : goal.decreases-loop-first
decreases-loop-first l = length l.left

abbrev pub invariant-loop-first : goal.invariant-loop-first
invariant-loop-first l = record {
  ready : IsReaderReady l.reader;
  whole : read_on l.report l.line l.reader.reading (lines_of l.left) ≡ read_on l.report 1 start (lines_of l.fn.bytes);
  from_one : 1 ≤ l.line;
  short : l.line + length l.left ≤ 4194305;
}
