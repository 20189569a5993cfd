use Rattle.weaver_top.specs.declared.command.Command.TheVariants.{Run}
use Rattle.weaver_top.proofs.Answering.{answers_input}
use Rattle.weaver_top.proofs.ByWorkers.{for-input}
use Rattle.weaver_top.proofs.run_command.report_on_threads.Goals as goal

pub returns-in-Ok-clause-right : goal.returns-in-Ok-clause-right
returns-in-Ok-clause-right g c = answers_input Run _ _ c.args.input.now c.requires (c.texts_are_read.ensures.read c.args.input.now _ c.in-Ok.ensures.read) c.answer_on_threads.ensures.right

pub returns-in-Ok-clause-workers : goal.returns-in-Ok-clause-workers
returns-in-Ok-clause-workers g c = for-input _ _ c.args.input.now (c.texts_are_read.ensures.read c.args.input.now _ c.in-Ok.ensures.read) c.answer_on_threads.ensures.workers
