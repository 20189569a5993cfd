use Rattle.std.proofs.Common.{◌≡◌, ◌++◌, map, take}
use Rattle.weave_text.specs.Lines.{spaced_words}
use Rattle.weave_report.specs.ReportText.{name_at}
use Rattle.weave_report.proofs.print.lines.print_requests.Given as goal

abbrev pub invariant-loop-request : goal.invariant-loop-request
invariant-loop-request l = l.text ≡ l.initial.text ++ spaced_words (map (name_at l.script) (take l.request-index l.requests))
