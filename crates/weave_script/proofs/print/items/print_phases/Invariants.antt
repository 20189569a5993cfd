use Rattle.std.proofs.Common.{◌≡◌, ◌++◌, drop}
use Rattle.weave_text.specs.Lines.{lines_text}
use Rattle.weave_script.specs.ScriptLines.{phase_lines}
use Rattle.weave_script.proofs.print.items.print_phases.Given as goal

abbrev pub invariant-loop-phase : goal.invariant-loop-phase
invariant-loop-phase l = l.text ++ lines_text (phase_lines (drop l._phase-index l.phases)) ≡ l.initial.text ++ lines_text (phase_lines l.phases)
