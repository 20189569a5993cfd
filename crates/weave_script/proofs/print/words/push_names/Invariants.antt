use Rattle.std.proofs.Common.{◌≡◌, ◌++◌, take, drop}
use Rattle.std.specs.List.{AllByRecursion}
use Rattle.weave_text.specs.Lines.{spaced_words}
use Rattle.weave_script.specs.Scripts.{IsName}
use Rattle.weave_script.proofs.print.words.push_names.Given as goal

abbrev pub invariant-loop-name : goal.invariant-loop-name
invariant-loop-name l = record {
  text : l.text ≡ l.initial.text ++ spaced_words (take l.name-index l.names);
  typed : AllByRecursion IsName (drop l.name-index l.names) → AllByRecursion IsName l.names;
}
