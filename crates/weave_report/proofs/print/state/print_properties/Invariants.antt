use Rattle.std.proofs.Common.{◌≡◌, ◌++◌, map, drop}
use Rattle.std.specs.List.{AllByRecursion}
use Rattle.weave_data.specs.declared.name.Name.{Name}
use Rattle.weave_report.specs.TextOf.{IsName}
use Rattle.weave_text.specs.Lines.{marked_texts}
use Rattle.weave_report.specs.ReportText.{property_text}
use Rattle.weave_report.proofs.print.state.print_properties.Given as goal

abbrev pub invariant-loop-key : goal.invariant-loop-key
invariant-loop-key l = record {
  text : l.text ++ marked_texts l.mark (map property_text (drop l.key-index l.properties)) ≡ l.initial.text ++ marked_texts l.mark (map property_text l.properties);
  typed : AllByRecursion (λ (pair : Name × Name). IsName pair.0 × IsName pair.1) (drop l.key-index l.properties) → AllByRecursion (λ (pair : Name × Name). IsName pair.0 × IsName pair.1) l.properties;
}
