use Rattle.weave_text.proofs.Clean.{name_is_clean, decimal_is_clean, is_clean-append, name_is_kept}
use Rattle.weave_text.proofs.laws.words_are_clean.Goals as goal

pub returns-clause-name : goal.returns-clause-name
returns-clause-name c = name_is_clean

pub returns-clause-number : goal.returns-clause-number
returns-clause-number c = decimal_is_clean

pub returns-clause-appended : goal.returns-clause-appended
returns-clause-appended c = is_clean-append

pub returns-clause-kept : goal.returns-clause-kept
returns-clause-kept c = name_is_kept
