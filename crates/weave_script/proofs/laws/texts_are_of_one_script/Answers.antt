use Rattle.weave_script.proofs.TextLaws.{one_script, script-from_text}
use Rattle.weave_script.proofs.laws.texts_are_of_one_script.Goals as goal

pub returns-clause-one : goal.returns-clause-one
returns-clause-one c = one_script (record { back = c.numbers_come_back.ensures.bounded; word = c.numbers_come_back.ensures.bounded_word })

pub returns-clause-script : goal.returns-clause-script
returns-clause-script c = script-from_text
