use Rattle.weave_entries.proofs.StoreLogs.{judgements-push, commits-push, last-push, count-push, graph-push}
use Rattle.weave_entries.proofs.laws.the_store_replay_goes_on.Goals as goal

pub returns : goal.returns
returns c = record { judgements = judgements-push; commits = commits-push; last = last-push; count = count-push; graph = graph-push }
