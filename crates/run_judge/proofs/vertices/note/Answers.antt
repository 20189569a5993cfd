use Rattle.std.proofs.Common.{◌||◌, ◌&&◌, ◌∙◌, ◌++◌, ◌∷◌, [], ap, sym, List, ℕ, Some, not, cond, eqb, take}
use Rattle.std.proofs.lemmas.List.{take_more}
use Rattle.weave_data.specs.declared.name.Name.{Name}
use Rattle.graph_ops.specs.Mentions.{is_among}
use Rattle.report_rules.specs.Lookups.{is_in}
use Rattle.run_judge.specs.Vertices.{last_transaction, later_programs}
use Rattle.run_judge.proofs.TableLaws.{last_more, since_more}
use Rattle.run_judge.proofs.vertices.note.Goals as goal

pub loop-name-preserved : goal.loop-name-preserved
loop-name-preserved c =
    let names : List Name = c.args.names.now in
    let i : ℕ = c.loop-name.name-index in
    let name : Name = c.name-item.result in
    record {
      lasts = λ v.
          last_more (take i names) name v c.args.changes c.args.request (last_transaction c.args.vertices.now v) (last_transaction c.loop-name.vertices v) (last_transaction c.note_at.new.vertices v) (c.loop-name.invariant.lasts v) (c.in_ok-note_at.ensures.lasts v)
          ∙ ap (λ (ns : List Name). cond (c.args.changes && is_among ns v) (Some c.args.request) (last_transaction c.args.vertices.now v)) (sym (take_more names i name c.loop-name-test.true ∙ ap (λ (one : Name). take i names ++ one ∷ []) (sym c.name-item.is)));
      since = λ v e.
          since_more (take i names) name v c.args.changes (eqb e c.args.request) (is_in e (later_programs c.args.vertices.now v)) (is_in e (later_programs c.loop-name.vertices v)) (is_in e (later_programs c.note_at.new.vertices v)) (c.loop-name.invariant.since v e) (c.in_ok-note_at.ensures.since v e)
          ∙ ap (λ (ns : List Name). cond (is_among ns v) (not c.args.changes && (eqb e c.args.request || is_in e (later_programs c.args.vertices.now v))) (is_in e (later_programs c.args.vertices.now v))) (sym (take_more names i name c.loop-name-test.true ∙ ap (λ (one : Name). take i names ++ one ∷ []) (sym c.name-item.is)));
    }
