use Rattle.std.proofs.Common.{Option, Contains, subst}
use Rattle.weave_data.proofs.Members.{has_map}
use Rattle.weave_entries.specs.declared.message.Message.{Message}
use Rattle.weave_entries.specs.GateReplay.{BegunRequest, next_stamp, clock_of, stamps_of, channel_of}
use Rattle.weave_entries.proofs.Channels.{StandsBefore, channels_rise}
use Rattle.weave_entries.proofs.OwnStamps.{sent-stamp, channel-sent}
use Rattle.weave_entries.proofs.Rising.{rises}
use Rattle.weave_entries.proofs.laws.messages_come_before.Goals as goal

pub returns : goal.returns
returns c =
    let laws = c.clocks_keep_the_laws.ensures in
    record {
      flight = λ home shards shard log below right flight flies message has.
          let stands = (channels_rise laws home shards shard below log right).under message.stamp (has_map (λ (one : Message). one.stamp) (channel_of shard log) message has) in
          subst (λ (f : Option BegunRequest). StandsBefore laws (clock_of home log) f message.stamp) flies stands;
      next = λ home shards shard log below right message has.
          let at = channel-sent shard log message has in
          let facts = rises laws home shards below log right in
          let own : Contains (stamps_of log) message.stamp = subst (λ (m : Message). Contains (stamps_of log) m.stamp) at.2 (sent-stamp home shards log right at.0 at.1) in
          laws.at_most_before message.stamp.clock (clock_of home log) ((next_stamp home (clock_of home log)).clock) (facts.under message.stamp own) (laws.tick_is_later home (clock_of home log) below facts.eight);
    }
