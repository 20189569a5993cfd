use Rattle.std.proofs.Common.{rules, ◌≡◌, true, refl, ◌∙◌, ap, subst, is_ok}
use Rattle.graph_ops.specs.Graphs.{plain_of}
use Rattle.graph_ops.specs.PlainGraph.{graph_left, transaction}
use Rattle.store_journal.specs.Commits.{has_right_stamp}
use Rattle.store_journal.proofs.WalkSteps.{followed}
use Rattle.store_journal.proofs.walk.take_commit.Goals as goal

pub returns-clause-commit : goal.returns-clause-commit
returns-clause-commit c earlier passed =
    let graph = plain_of c.args.walked.now.graph in
    let ops : c.as_slice.result.now ≡ c.args.commit.now.ops = search rules in
    let right : has_right_stamp c.args.walked.now.clock c.args.walked.now.number c.args.commit.now.stamp ≡ true = search rules in
    let passes : is_ok (transaction c.as_slice.result.now graph) ≡ true = search rules in
    followed c.args.walked.now _ c.args.commit.now earlier passed refl refl
    (c.in_ok-passes.ensures.graph ∙ ap (λ l. graph_left graph (transaction l graph)) ops) right
    (subst (λ l. is_ok (transaction l graph) ≡ true) ops passes)
