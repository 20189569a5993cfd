use Rattle.seen_logs.proofs.Going.{asked-stays, gate-stays, oracle-stays, shard-stays, store-stays}
use Rattle.seen_logs.proofs.laws.references_go_on.Goals as goal

pub returns : goal.returns
returns c =
    let laws = c.the_crates_below_keep_their_laws.ensures in
    record {
      gate = λ gates shards seen next gates_on store_on shards_on legal before author deed.
          gate-stays laws seen next gates_on store_on shards_on gates legal shards before author deed;
      store = λ seen next gates_on oracle_on before author deed. store-stays laws seen next gates_on oracle_on before author deed;
      oracle = λ seen next gates_on deed. oracle-stays laws seen next gates_on deed;
      asked = λ gates seen next store_on shards_on legal entry. asked-stays laws seen next store_on shards_on gates legal entry;
      shard = λ shards shard seen next gates_on store_on oracle_on before author deed.
          shard-stays laws seen next gates_on store_on oracle_on shards shard before author deed;
    }
