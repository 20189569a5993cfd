use Rattle.backing_store.proofs.Committing.{commits_le, counts_le}
use Rattle.backing_store.proofs.laws.counts_are_at_most_the_commits.Goals as goal

pub returns : goal.returns
returns c = record { counts = counts_le; commits = commits_le }
