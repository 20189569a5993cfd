use Rattle.std.proofs.Common.{IsTrue, subst}
use Rattle.vector_stamp.specs.Order.{HasEightCounts, is_at_most}
use Rattle.weave_entries.specs.declared.message.Message.{Message}
use Rattle.weave_entries.proofs.LowMarks.{lows}
use Rattle.weave_entries.proofs.OwnStamps.{channel-sent}
use Rattle.weave_entries.proofs.laws.low_marks_are_below.Goals as goal

pub returns : goal.returns
returns c =
    let laws = c.clocks_keep_the_laws.ensures in
    record {
      eight = λ home shards shard log below right message has.
          let at = channel-sent shard log message has in
          subst (λ (m : Message). HasEightCounts m.low) at.2 ((lows laws home shards below log right at.0 at.1).eight);
      its_stamp = λ home shards shard log below right message has.
          let at = channel-sent shard log message has in
          subst (λ (m : Message). IsTrue (is_at_most m.low m.stamp.clock)) at.2 ((lows laws home shards below log right at.0 at.1).of_stamp);
      running = λ home shards shard log below right message has program runs.
          let at = channel-sent shard log message has in
          subst (λ (m : Message). IsTrue (is_at_most m.low program.stamp.clock)) at.2 ((lows laws home shards below log right at.0 at.1).of_running program runs);
    }
