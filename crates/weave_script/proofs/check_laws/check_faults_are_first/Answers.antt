use Rattle.weave_report.specs.Reading.{report_start}
use Rattle.weave_script.proofs.CheckFaults.{first_check_fault, too_long_check}
use Rattle.weave_script.proofs.CheckTold.{first_fault_told}
use Rattle.weave_script.proofs.check_laws.check_faults_are_first.Goals as goal

pub returns-clause-first : goal.returns-clause-first
returns-clause-first c =
    first_check_fault (record { back = c.numbers_come_back.ensures.bounded; word = c.numbers_come_back.ensures.bounded_word })
    (λ script n lines refusal. c.refusals_are_first.ensures.lines script n report_start lines refusal)

pub returns-clause-told : goal.returns-clause-told
returns-clause-told c =
    first_fault_told (record { back = c.numbers_come_back.ensures.bounded; word = c.numbers_come_back.ensures.bounded_word })
    (λ script n lines refusal. c.refusals_are_first.ensures.told script n report_start lines refusal)

pub returns-clause-too_long : goal.returns-clause-too_long
returns-clause-too_long c = too_long_check
