use Rattle.weave_script.proofs.FirstFault.{first_fault_of_text, first_fault_told, too_long_text}
use Rattle.weave_script.proofs.laws.faults_are_first.Goals as goal

pub returns-clause-first : goal.returns-clause-first
returns-clause-first c = first_fault_of_text

pub returns-clause-reported : goal.returns-clause-reported
returns-clause-reported c = first_fault_told

pub returns-clause-too_long : goal.returns-clause-too_long
returns-clause-too_long c = too_long_text
