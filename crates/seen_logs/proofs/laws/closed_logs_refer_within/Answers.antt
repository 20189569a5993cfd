use Rattle.seen_logs.proofs.Closing.{hand-after}
use Rattle.seen_logs.proofs.laws.closed_logs_refer_within.Goals as goal

pub returns : goal.returns
returns c = λ gates shards hands start seen_by closed few legal of.
    hand-after {gates = gates} {shards = shards} (record { laws = c.the_crates_below_keep_their_laws.ensures; few = few; legal = legal; of = of })
