use Rattle.std.proofs.Common.{◌∙◌}
use Rattle.std.specs.Cmp.{both_ways as same_test}
use Rattle.program_defs.specs.Visits.{as_set}
use Rattle.program_defs.proofs.Members.{as_set-has, as_set-only}
use Rattle.program_defs.proofs.Sets.{as_set-set, set-rising}
use Rattle.program_defs.proofs.laws.searches_find_the_present.Goals as goal

pub returns-clause-rising : goal.returns-clause-rising
returns-clause-rising c = λ search. set-rising (as_set search.present) (as_set-set search.present)

pub returns-clause-members : goal.returns-clause-members
returns-clause-members c = λ program search reads v h. same_test _ _ (as_set-only search.present v) (as_set-has search.present v) ∙ h.found.present v
