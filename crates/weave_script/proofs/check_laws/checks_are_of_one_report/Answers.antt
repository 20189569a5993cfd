use Rattle.weave_script.proofs.CheckLaws.{one_check}
use Rattle.weave_script.proofs.check_laws.checks_are_of_one_report.Goals as goal

pub returns : goal.returns
returns c = one_check (record { back = c.numbers_come_back.ensures.bounded; word = c.numbers_come_back.ensures.bounded_word }) c.text_is_of_one_report.ensures
