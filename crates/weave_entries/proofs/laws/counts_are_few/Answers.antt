use Rattle.std.proofs.lemmas.List.{length-map}
use Rattle.weave_entries.proofs.Small.{own_small, sent_small}
use Rattle.weave_entries.proofs.laws.counts_are_few.Goals as goal

pub returns : goal.returns
returns c =
    record {
      own = λ home shards log below right. own_small c.clocks_keep_the_laws.ensures home shards below log right;
      sent = λ home shards shard log right. rw length-map (sent_small home shards shard log right);
    }
