use Rattle.weave_script.proofs.CheckLaws.{check_is_text, check_is_short, every_check, no_check}
use Rattle.weave_script.proofs.check_laws.checks_are_read.Goals as goal

pub returns-clause-read : goal.returns-clause-read
returns-clause-read c =
    check_is_text (record { back = c.numbers_come_back.ensures.bounded; word = c.numbers_come_back.ensures.bounded_word }) c.read_texts_are_texts.ensures.read

pub returns-clause-short : goal.returns-clause-short
returns-clause-short c = check_is_short

pub returns-clause-every_text : goal.returns-clause-every_text
returns-clause-every_text c =
    every_check (record { back = c.numbers_come_back.ensures.bounded; word = c.numbers_come_back.ensures.bounded_word }) c.read_texts_are_texts.ensures.complete

pub returns-clause-refused : goal.returns-clause-refused
returns-clause-refused c =
    no_check (record { back = c.numbers_come_back.ensures.bounded; word = c.numbers_come_back.ensures.bounded_word }) c.read_texts_are_texts.ensures.complete
