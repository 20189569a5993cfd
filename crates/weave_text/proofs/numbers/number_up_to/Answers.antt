use Rattle.std.proofs.Common.{sym, arith}
use Rattle.weave_text.proofs.Numerals.{number_up_to-within, number_up_to-past, number_up_to-long, number_up_to-none}
use Rattle.weave_text.proofs.numbers.number_up_to.Goals as goal

pub returns-in-Some : goal.returns-in-Some
returns-in-Some c = sym (number_up_to-within c.args.most c.args.word.now c.in-Some.value (sym c.in-Some.ensures) c.if-value-most.true)

pub returns-in-Some-2 : goal.returns-in-Some-2
returns-in-Some-2 c = sym (number_up_to-past c.args.most c.args.word.now c.in-Some.value (sym c.in-Some.ensures) (omega arith))

pub returns-in-None : goal.returns-in-None
returns-in-None c = sym (number_up_to-long c.args.most c.args.word.now (omega arith) (sym c.in-None.ensures) (sym c.if-is_number.ensures))

pub returns-in-None-2 : goal.returns-in-None-2
returns-in-None-2 c = sym (number_up_to-none c.args.most c.args.word.now (sym c.if-is_number.ensures))
