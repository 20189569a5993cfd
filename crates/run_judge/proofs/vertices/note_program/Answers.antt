use Rattle.std.proofs.Common.{◌∙◌, ◌++◌, ◌∷◌, ap, [], List, ℕ, None, Some, cond}
use Rattle.std.specs.Option.{unwrap_or}
use Rattle.weave_data.specs.Names.{same_name}
use Rattle.run_judge.specs.Vertices.{later_programs}
use Rattle.run_judge.proofs.TableLaws.{looked_up, twice}
use Rattle.run_judge.proofs.vertices.note_program.Goals as goal

pub returns-clause-since : goal.returns-clause-since
returns-clause-since c v =
    ap (λ o. unwrap_or o []) (c.in_ok-insert.ensures.updates.0 v ∙ ap (cond (same_name c.args.name v) (Some c.push.new.self)) (c.take_programs-programs.ensures.gone v) ∙ twice (same_name c.args.name v) (Some c.push.new.self) _ None)
    ∙ looked_up (same_name c.args.name v) (Some c.push.new.self) _ []
    ∙ ap (λ (xs : List ℕ). cond (same_name c.args.name v) xs (later_programs c.args.vertices.now v)) (c.in_ok-push.ensures.ok ∙ ap (λ (xs : List ℕ). xs ++ c.args.request ∷ []) c.take_programs-programs.ensures.programs)
