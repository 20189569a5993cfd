use Rattle.priced_path.proofs.Entries.{take-from}
use Rattle.priced_path.proofs.opened.Opened.take.Goals as goal

pub returns-clause-some : goal.returns-clause-some
returns-clause-some c = take-from (λ entry. entry.0) _ _ _ _ c.self.view_is c.in_ok-entry.ensures.permutation
