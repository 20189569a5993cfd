-- What is prepared for an input, also for one that is too long.
use Rattle.std.proofs.Common.{Err, ap}
use Rattle.explain_top.specs.Explained.{Explains}
use Rattle.explain_top.proofs.Delivered.{of_long}
use Rattle.explain_top.proofs.explaining.prepared.Goals as goal

pub returns-in-Ok-too_long-clause-explains : goal.returns-in-Ok-too_long-clause-explains
returns-in-Ok-too_long-clause-explains g c = of_long (λ input. Explains c.args.command c.in-Ok-too_long.answer.status input c.in-Ok-too_long.answer.text.items) (g.S.Source.left c.args.source.now) (g.S.Source.left c.read_all.new.source) (c.in-Err-TooLong.ensures.too_long (ap Err c.in-Err-TooLong.field-0-is)) (c.in-Ok-too_long.ensures.explains c.args.command)
