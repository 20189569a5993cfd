use Rattle.weave_account.proofs.Ordering.{ordered}
use Rattle.weave_account.proofs.laws.commits_are_ordered.Goals as goal

pub returns : goal.returns
returns c =
    λ script account limits is v. ordered script account v account.store is.store.judges
