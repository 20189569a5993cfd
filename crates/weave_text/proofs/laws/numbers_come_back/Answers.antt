use Rattle.weave_text.proofs.Numerals.{number_of-decimal, word_of-number, number_up_to-decimal, word_of-bounded}
use Rattle.weave_text.proofs.laws.numbers_come_back.Goals as goal

pub returns-clause-number : goal.returns-clause-number
returns-clause-number c = number_of-decimal

pub returns-clause-word : goal.returns-clause-word
returns-clause-word c = word_of-number

pub returns-clause-bounded : goal.returns-clause-bounded
returns-clause-bounded c = number_up_to-decimal

pub returns-clause-bounded_word : goal.returns-clause-bounded_word
returns-clause-bounded_word c = word_of-bounded
