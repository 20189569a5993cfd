use Rattle.std.proofs.Common.{subst, Bool, List, sym}
use Rattle.report_rules.specs.declared.report.Reply.{Reply}
use Rattle.order_witness.specs.Turns.{IsAfterCommits, IsBeforeCommits, IsOfMarked}
use Rattle.order_witness.proofs.TurnSteps.{all_kept}
use Rattle.order_witness.proofs.refusals.first_fault.Goals as goal

pub first_out_of_place-requires-clause-kept : goal.first_out_of_place-requires-clause-kept
first_out_of_place-requires-clause-kept c =
    let script = c.args.script.now in
    all_kept script c.args.report.now c.requires.replies c.as_slice-kept.result.now
    (subst (λ (marks : List Bool). IsOfMarked (IsAfterCommits script c.args.report.now.replies) marks) (sym c.as_slice-kept.ensures.value) (subst (λ (rs : List Reply). IsOfMarked (IsAfterCommits script rs) c.in_ok-turns.turns.items) c.as_slice.ensures c.in_ok-turns.ensures.after))
    (subst (λ (marks : List Bool). IsOfMarked (IsBeforeCommits script c.args.report.now.replies) marks) (sym c.as_slice-kept.ensures.value) (subst (λ (rs : List Reply). IsOfMarked (IsBeforeCommits script rs) c.in_ok-turns.turns.items) c.as_slice.ensures c.in_ok-turns.ensures.before))
