use Rattle.std.proofs.Common.{◌≡◌, ◌||◌, ◌&&◌, ℕ, Some, not, take}
use Rattle.std.specs.Prelude.{◌==◌, if◌then◌else◌}
use Rattle.weave_data.specs.declared.name.Name.{Name}
use Rattle.graph_ops.specs.Mentions.{is_among}
use Rattle.report_rules.specs.Lookups.{is_in}
use Rattle.run_judge.specs.Vertices.{last_transaction, later_programs}
use Rattle.run_judge.proofs.vertices.note.Given as goal

abbrev pub invariant-loop-name : goal.invariant-loop-name
invariant-loop-name l = record {
  lasts : (v : Name) → last_transaction l.vertices v ≡ (if l.changes && is_among (take l.name-index l.names) v then Some l.request else last_transaction l.initial.vertices v);
  since : (v : Name) (e : ℕ) → is_in e (later_programs l.vertices v) ≡ (if is_among (take l.name-index l.names) v then (not l.changes && (e == l.request || is_in e (later_programs l.initial.vertices v))) else is_in e (later_programs l.initial.vertices v));
}
