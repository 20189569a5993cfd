use Rattle.weave_text.proofs.Clean.{name_lacks, decimal_lacks}
use Rattle.weave_text.proofs.Joined.{lacks-append}
use Rattle.weave_text.proofs.laws.words_lack_other_bytes.Goals as goal

pub returns-clause-name : goal.returns-clause-name
returns-clause-name c = name_lacks

pub returns-clause-number : goal.returns-clause-number
returns-clause-number c = decimal_lacks

pub returns-clause-appended : goal.returns-clause-appended
returns-clause-appended c = lacks-append
