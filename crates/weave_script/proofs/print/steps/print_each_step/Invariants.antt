use Rattle.std.proofs.Common.{◌≡◌, ◌++◌, map, take}
use Rattle.weave_text.specs.Lines.{lines_text}
use Rattle.weave_script.specs.ScriptLines.{step_line}
use Rattle.weave_script.proofs.print.steps.print_each_step.Given as goal

abbrev pub invariant-loop-step : goal.invariant-loop-step
invariant-loop-step l = l.text ≡ l.initial.text ++ lines_text (map (step_line l.requests) (take l.step-index l.steps))
