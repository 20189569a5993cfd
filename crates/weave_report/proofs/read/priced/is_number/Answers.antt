use Rattle.std.proofs.Common.{sym}
use Rattle.weave_report.proofs.WideNumbers.{no_number, large_number, some_number}
use Rattle.weave_report.proofs.read.priced.is_number.Goals as goal

pub returns-in-NoNumber : goal.returns-in-NoNumber
returns-in-NoNumber c = sym (no_number c.args.word.now (sym c.in-NoNumber.ensures))

pub returns-in-TooLarge : goal.returns-in-TooLarge
returns-in-TooLarge c = sym (large_number c.args.word.now (sym c.in-TooLarge.ensures))

pub returns-in-Number : goal.returns-in-Number
returns-in-Number c = sym (some_number c.args.word.now _ (sym c.in-Number.ensures))
