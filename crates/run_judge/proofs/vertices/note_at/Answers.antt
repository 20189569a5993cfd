use Rattle.std.proofs.Common.{◌∙◌, ap, sym, Bool, not, ◌&&◌, ◌||◌, cond, eqb}
use Rattle.weave_data.specs.Names.{one_name, same_name}
use Rattle.report_rules.specs.Lookups.{is_in}
use Rattle.run_judge.specs.Vertices.{later_programs}
use Rattle.run_judge.proofs.TableLaws.{since_program}
use Rattle.weave_data.proofs.Results.{on_ok_map}
use Rattle.run_judge.proofs.vertices.note_at.Goals as goal

pub returns-else-changes-clause-since : goal.returns-else-changes-clause-since
returns-else-changes-clause-since c =
    on_ok_map c.note_program.result _ _
    (λ h v e.
    since_program (same_name c.args.name v) e c.args.request (later_programs c.args.vertices.now c.args.name) (later_programs c.args.vertices.now v) (later_programs c.note_program.new.vertices v) (λ same. ap (later_programs c.args.vertices.now) (one_name c.args.name v same)) (h v)
    ∙ ap (λ (b : Bool). cond (same_name c.args.name v) (not b && (eqb e c.args.request || is_in e (later_programs c.args.vertices.now v))) (is_in e (later_programs c.args.vertices.now v))) (sym c.if-changes.false))
    c.note_program.ensures.since
