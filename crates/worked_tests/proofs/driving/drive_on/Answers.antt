use Rattle.worked_tests.proofs.driving.drive_on.Goals as goal

pub start_and_drive-requires : goal.start_and_drive-requires
start_and_drive-requires c = c.texts_are_of_one_script.ensures.script c.args.input.now _ c.in-Ok.ensures.text
