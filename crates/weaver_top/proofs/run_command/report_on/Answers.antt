use Rattle.weaver_top.specs.declared.command.Command.TheVariants.{Run}
use Rattle.weaver_top.proofs.Answering.{answers_input}
use Rattle.weaver_top.proofs.run_command.report_on.Goals as goal

pub answer_for-requires : goal.answer_for-requires
answer_for-requires c = c.texts_are_of_one_script.ensures.script c.args.input.now _ (c.texts_are_read.ensures.read c.args.input.now _ c.in-Ok.ensures.read)

pub returns-in-Ok : goal.returns-in-Ok
returns-in-Ok c = answers_input Run _ _ c.args.input.now c.requires (c.texts_are_read.ensures.read c.args.input.now _ c.in-Ok.ensures.read) c.answer_for.ensures
