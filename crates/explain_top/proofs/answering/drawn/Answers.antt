-- What is drawn is an input that `check` takes.
use Rattle.explain_top.proofs.Taken.{report_drawn}
use Rattle.explain_top.proofs.answering.drawn.Goals as goal

pub returns-in-Ok-clause-explains : goal.returns-in-Ok-clause-explains
returns-in-Ok-clause-explains c = report_drawn c.args.input.now (c.in-Ok.script, c.in-Ok.report) c.drawn_report.result (c.checks_are_read.ensures.short c.args.input.now c.in-Ok.script c.in-Ok.report c.in-Ok.ensures.read) c.in-Ok.ensures.texts c.drawn_report.ensures
