use Rattle.weave_entries.proofs.NonePast.{none_past}
use Rattle.weave_entries.proofs.laws.clocks_count_none_past.Goals as goal

pub returns : goal.returns
returns c =
    let laws = c.clocks_keep_the_laws.ensures in
    record {
      own = λ gates home shards log below right hears. (none_past laws gates home shards below log right hears).own;
      each = λ gates home shards log below right hears. (none_past laws gates home shards below log right hears).each;
    }
