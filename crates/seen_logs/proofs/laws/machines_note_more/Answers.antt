use Rattle.seen_logs.proofs.Noting.{gate-notes, oracle-notes, shard-notes, store-notes}
use Rattle.seen_logs.proofs.laws.machines_note_more.Goals as goal

pub returns : goal.returns
returns c =
    let laws = c.the_crates_below_keep_their_laws.ensures in
    record {
      gate = λ gates shards seen next gates_on store_on shards_on legal. gate-notes laws gates shards seen next gates_on store_on shards_on legal;
      store = λ seen next gates_on store_on oracle_on. store-notes laws seen next gates_on store_on oracle_on;
      oracle = λ seen next gates_on oracle_on. oracle-notes laws seen next gates_on oracle_on;
      shard = λ shards seen next gates_on store_on oracle_on shard on. shard-notes laws shards seen next gates_on store_on oracle_on shard on;
    }
