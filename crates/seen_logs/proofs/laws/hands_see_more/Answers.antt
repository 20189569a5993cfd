use Rattle.seen_logs.proofs.Onward.{hand-on}
use Rattle.seen_logs.proofs.laws.hands_see_more.Goals as goal

pub returns : goal.returns
returns c = λ gates shards number start seen next hand on legal adds.
    hand-on c.the_crates_below_keep_their_laws.ensures gates shards number start seen next hand on legal adds
