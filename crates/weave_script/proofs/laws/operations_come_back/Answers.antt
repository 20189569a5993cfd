use Rattle.weave_script.proofs.Clean.{op_clean}
use Rattle.weave_script.proofs.OpLaws.{op_in_line-ok, op_in_line-again}
use Rattle.weave_script.proofs.ShortLines.{short_line}
use Rattle.weave_script.proofs.laws.operations_come_back.Goals as goal

pub returns-clause-read : goal.returns-clause-read
returns-clause-read c joins op names of = (op_in_line-again joins op names of).0

pub returns-clause-names : goal.returns-clause-names
returns-clause-names c joins line op e = (op_in_line-ok joins line op e).names

pub returns-clause-version : goal.returns-clause-version
returns-clause-version c joins line op e = (op_in_line-ok joins line op e).version

pub returns-clause-line : goal.returns-clause-line
returns-clause-line c joins line op e = (op_in_line-ok joins line op e).line_is

pub returns-clause-clean : goal.returns-clause-clean
returns-clause-clean c op names = op_clean (record { name = c.words_are_clean.ensures.name; number = c.words_are_clean.ensures.number }) op names

pub returns-clause-short : goal.returns-clause-short
returns-clause-short c op names = short_line op names
