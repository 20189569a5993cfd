use Rattle.std.proofs.Common.{Contains, subst}
use Rattle.weave_entries.specs.declared.message.Message.{Message}
use Rattle.weave_entries.specs.GateReplay.{stamps_of}
use Rattle.weave_entries.proofs.OwnStamps.{begun-stamp, flight-stamp, running-stamp, sent-stamp, channel-sent}
use Rattle.weave_entries.proofs.laws.stamps_are_its_own.Goals as goal

pub returns : goal.returns
returns c =
    record {
      begun = begun-stamp;
      flight = flight-stamp;
      running = running-stamp;
      sent = λ home shards shard log right message has.
          let at = channel-sent shard log message has in
          subst (λ (m : Message). Contains (stamps_of log) m.stamp) at.2 (sent-stamp home shards log right at.0 at.1);
    }
