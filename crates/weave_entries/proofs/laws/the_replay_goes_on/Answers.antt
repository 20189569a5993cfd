use Rattle.weave_entries.proofs.Replay.{clock-push, flight-push, running-push, stamps-push, begun-push, ended-push, channel-push}
use Rattle.weave_entries.proofs.laws.the_replay_goes_on.Goals as goal

pub returns : goal.returns
returns c =
    record {
      clock = λ home log entry. clock-push log entry home;
      flight = flight-push;
      running = running-push;
      stamps = stamps-push;
      begun = begun-push;
      ended = ended-push;
      channel = λ shard log entry. channel-push log entry shard;
    }
