use Rattle.std.proofs.Common.{Bool, IsTrue, List, subst, sym}
use Rattle.std.specs.Prelude.{◌↔◌}
use Rattle.run_judge.specs.Vertices.{IsNotedAt, IsOn}
use Rattle.weave_data.specs.declared.name.Name.{Name}
use Rattle.graph_ops.specs.Graphs.{plain_of}
use Rattle.graph_ops.specs.Mentions.{is_among}
use Rattle.run_judge.proofs.MeetingLaws.{comparison_so, noted_so}
use Rattle.run_judge.proofs.meetings.meet_work.Goals as goal

pub returns-clause-compared : goal.returns-clause-compared
returns-clause-compared c =
    comparison_so c.args.report.now (plain_of c.args.graph.now) c.args.vertices.now c.args.work.now c.args.request c.as_slice-names.result.now c.is_change-changes.result c.is_change-changes.ensures
    (λ v. subst (λ (names : List Name). IsTrue (is_among names v) ↔ IsOn (plain_of c.args.graph.now) v c.args.work.now) (sym c.as_slice-names.ensures.value) (c.in_ok-storage.ensures v))
    c.first_unordered-found.result c.first_unordered-found.ensures

pub returns-clause-noted : goal.returns-clause-noted
returns-clause-noted c = λ v.
    let names : List Name = c.as_slice-names.result.now in
    let on = subst (λ (ns : List Name). IsTrue (is_among ns v) ↔ IsOn (plain_of c.args.graph.now) v c.args.work.now) (sym c.as_slice-names.ensures.value) (c.in_ok-storage.ensures v) in
    subst (λ (b : Bool). IsNotedAt c.args.vertices.now c.note.new.vertices v (IsOn (plain_of c.args.graph.now) v c.args.work.now) b c.args.request) c.is_change-changes.ensures
    (noted_so c.args.vertices.now c.note.new.vertices v names (IsOn (plain_of c.args.graph.now) v c.args.work.now) c.is_change-changes.result c.args.request on (c.in_ok-note.ensures.lasts v) (c.in_ok-note.ensures.since v))
