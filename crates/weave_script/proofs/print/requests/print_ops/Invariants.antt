use Rattle.std.proofs.Common.{◌≡◌, ◌++◌, map, take, drop}
use Rattle.std.specs.List.{AllByRecursion}
use Rattle.weave_text.specs.Lines.{lines_text}
use Rattle.weave_script.specs.ScriptLines.{op_line}
use Rattle.weave_script.specs.Scripts.{IsOperation}
use Rattle.weave_script.proofs.print.requests.print_ops.Given as goal

abbrev pub invariant-loop-op : goal.invariant-loop-op
invariant-loop-op l = record {
  text : l.text ≡ l.initial.text ++ lines_text (map op_line (take l.op-index l.ops));
  typed : AllByRecursion IsOperation (drop l.op-index l.ops) → AllByRecursion IsOperation l.ops;
}
