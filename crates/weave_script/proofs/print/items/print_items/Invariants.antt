use Rattle.std.proofs.Common.{◌≡◌, ◌++◌, drop}
use Rattle.weave_text.specs.Lines.{lines_text}
use Rattle.weave_script.specs.ScriptLines.{item_lines}
use Rattle.weave_script.proofs.print.items.print_items.Given as goal

abbrev pub invariant-loop-index : goal.invariant-loop-index
invariant-loop-index l =
    l.text ++ lines_text (item_lines l.index (drop l.index l.requests) l.left) ≡ l.initial.text ++ lines_text (item_lines 0 l.requests l.phases)
