use Rattle.std.proofs.Common.{ap, map}
use Rattle.weave_entries.specs.declared.message.Addressed.{Addressed}
use Rattle.weave_entries.proofs.Channels.{is_channel}
use Rattle.weave_entries.proofs.Small.{none_sent}
use Rattle.weave_entries.proofs.laws.channels_rise.Goals as goal

pub returns : goal.returns
returns c =
    record {
      channel = λ home shards shard log below right. is_channel c.clocks_keep_the_laws.ensures home shards shard below log right;
      beyond = λ home shards shard log right beyond. ap (map (λ (addressed : Addressed). addressed.message)) (none_sent home shards shard beyond log right);
    }
