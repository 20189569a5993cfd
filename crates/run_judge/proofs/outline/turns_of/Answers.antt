use Rattle.std.proofs.Common.{sym, subst}
use Rattle.report_rules.specs.declared.report.Report.{Report}
use Rattle.weave_data.specs.Facts.{AllHold}
use Rattle.report_rules.specs.RightReport.{replies_clause}
use Rattle.report_rules.specs.PrintedOrder.{IsPrintedOrder}
use Rattle.order_witness.specs.Begun.{NonePrecedesItself}
use Rattle.run_judge.proofs.OutlineLaws.{none_itself, replies_in_place, turns_are}
use Rattle.run_judge.proofs.outline.turns_of.Goals as goal

pub order_of-requires-clause-replies : goal.order_of-requires-clause-replies
order_of-requires-clause-replies c =
    subst (λ (report : Report). AllHold (replies_clause c.args.script.now report)) (sym c.in_ok-outline.ensures)
    (replies_in_place c.args.script.now c.args.report.now c.requires.replies)

pub order_of-requires-clause-acyclic : goal.order_of-requires-clause-acyclic
order_of-requires-clause-acyclic c =
    subst NonePrecedesItself (sym c.in_ok-outline.ensures) (none_itself c.args.report.now c.requires.acyclic)

pub returns : goal.returns
returns c =
    turns_are c.args.report.now c.args.script.now (replies_in_place c.args.script.now c.args.report.now c.requires.replies) c.in_ok-turns.turns.items
    (subst (λ (report : Report). IsPrintedOrder report c.in_ok-turns.turns.items) c.in_ok-outline.ensures c.in_ok-turns.ensures)
