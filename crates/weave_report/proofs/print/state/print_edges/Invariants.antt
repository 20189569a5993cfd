use Rattle.std.proofs.Common.{◌≡◌, ◌++◌, map, drop}
use Rattle.std.specs.List.{AllByRecursion}
use Rattle.weave_data.specs.declared.name.Name.{Name}
use Rattle.graph_ops.specs.declared.record.Edge.{Edge}
use Rattle.weave_report.specs.TextOf.{IsName, IsTypedEdge}
use Rattle.weave_text.specs.Lines.{spaced_words}
use Rattle.weave_report.specs.ReportText.{edge_text}
use Rattle.weave_report.proofs.print.state.print_edges.Given as goal

abbrev pub invariant-loop-name : goal.invariant-loop-name
invariant-loop-name l = record {
  text : l.text ++ spaced_words (map edge_text (drop l.name-index l.edges)) ≡ l.initial.text ++ spaced_words (map edge_text l.edges);
  typed : AllByRecursion (λ (pair : Name × Edge). IsName pair.0 × IsTypedEdge pair.1) (drop l.name-index l.edges) → AllByRecursion (λ (pair : Name × Edge). IsName pair.0 × IsTypedEdge pair.1) l.edges;
}
