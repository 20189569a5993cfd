use Rattle.weave_script.proofs.TextLaws.{text-from_read, read_text-text, short-from_read, no_script}
use Rattle.weave_script.proofs.laws.texts_are_read.Goals as goal

pub returns-clause-read : goal.returns-clause-read
returns-clause-read c = text-from_read (record { back = c.numbers_come_back.ensures.bounded; word = c.numbers_come_back.ensures.bounded_word })

pub returns-clause-short : goal.returns-clause-short
returns-clause-short c = short-from_read

pub returns-clause-every_text : goal.returns-clause-every_text
returns-clause-every_text c = read_text-text (record { back = c.numbers_come_back.ensures.bounded; word = c.numbers_come_back.ensures.bounded_word })

pub returns-clause-refused : goal.returns-clause-refused
returns-clause-refused c = no_script (record { back = c.numbers_come_back.ensures.bounded; word = c.numbers_come_back.ensures.bounded_word })
