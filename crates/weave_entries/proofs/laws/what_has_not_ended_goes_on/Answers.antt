use Rattle.weave_entries.proofs.Once.{flight_begun, running_begun, ends_to}
use Rattle.weave_entries.proofs.Running.{left_to}
use Rattle.weave_entries.proofs.laws.what_has_not_ended_goes_on.Goals as goal

pub returns : goal.returns
returns c =
    record {
      flight = λ home shards log right distinct tx. (
        (λ flies. (flight_begun log tx flies, ((ends_to home shards log right distinct).flies tx flies).1)),
        (λ left. (left_to home shards log right).flies tx left.0 left.1),
      );
      running = λ home shards log right distinct program. (
        (λ runs. (running_begun log program runs, ((ends_to home shards log right distinct).runs program runs).1)),
        (λ left. (left_to home shards log right).runs program left.0 left.1),
      );
    }
