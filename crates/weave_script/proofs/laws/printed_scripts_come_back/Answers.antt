use Rattle.weave_script.specs.ScriptLines.{script_lines, script_text}
use Rattle.weave_script.proofs.Clean.{script_is_clean}
use Rattle.weave_script.proofs.TextLaws.{printed, read_text-text}
use Rattle.weave_script.proofs.laws.printed_scripts_come_back.Goals as goal

pub returns-clause-text : goal.returns-clause-text
returns-clause-text c = λ script h.
    printed script h (c.clean_lines_come_back.ensures.kept (script_lines script) (script_is_clean (record { name = c.words_are_clean.ensures.name; number = c.words_are_clean.ensures.number }) script h))

pub returns-clause-read : goal.returns-clause-read
returns-clause-read c = λ script h short.
    read_text-text (record { back = c.numbers_come_back.ensures.bounded; word = c.numbers_come_back.ensures.bounded_word }) (script_text script) script short (returns-clause-text c script h)
