use Rattle.seen_logs.proofs.KnownWithin.{clock-known, clocks-known}
use Rattle.seen_logs.proofs.laws.clocks_count_within.Goals as goal

pub returns : goal.returns
returns c =
    let laws = c.the_crates_below_keep_their_laws.ensures in
    record {
      each = λ shards seen home refers legal. clocks-known laws shards seen home refers legal;
      own = λ shards seen home refers small. clock-known laws shards seen home refers small;
    }
