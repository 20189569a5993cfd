use Rattle.weave_report.proofs.FirstRefused.{first_is_told, first_refused, first_refused_of_text}
use Rattle.weave_report.proofs.reading_laws.refusals_are_first.Goals as goal

pub returns-clause-lines : goal.returns-clause-lines
returns-clause-lines c = first_refused

pub returns-clause-text : goal.returns-clause-text
returns-clause-text c = first_refused_of_text

pub returns-clause-told : goal.returns-clause-told
returns-clause-told c = first_is_told
