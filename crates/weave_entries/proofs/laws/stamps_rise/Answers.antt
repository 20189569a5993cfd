use Rattle.weave_entries.specs.GateReplay.{clock_of, stamps_of}
use Rattle.weave_entries.proofs.LowMarks.{stamps-eight}
use Rattle.weave_entries.proofs.Rising.{rises}
use Rattle.weave_entries.proofs.Ticks.{ticks_rise_to, coherent}
use Rattle.weave_entries.proofs.laws.stamps_rise.Goals as goal

pub returns : goal.returns
returns c =
    let laws = c.clocks_keep_the_laws.ensures in
    record {
      rise = λ home shards log below right. (rises laws home shards below log right).rise;
      under = λ home shards log below right. (rises laws home shards below log right).under;
      homes = λ home shards log below right. (ticks_rise_to laws home shards below log right).homes;
      coherent = λ home shards log below right. coherent laws home (clock_of home log) (stamps_of log) below ((rises laws home shards below log right).rise) (ticks_rise_to laws home shards below log right);
      ticks = λ home shards log below right. (ticks_rise_to laws home shards below log right).counts;
      eight = λ home shards log below right. (rises laws home shards below log right).eight;
      eight_each = λ home shards log below right. stamps-eight laws home shards below log right;
    }
