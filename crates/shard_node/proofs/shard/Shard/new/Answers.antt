use Rattle.std.proofs.Common.{arith}
use Rattle.shard_node.proofs.Keeping.{keeps_none}
use Rattle.shard_node.proofs.LowMarks.{no-marks}
use Rattle.shard_node.proofs.shard.Shard.new.Goals as goal

pub invariant_of-result : goal.invariant_of-result
invariant_of-result c = (
  keeps_none c.args.gates c.in_ok-empty_channels.field-0.items _ _ c.new-2.ensures.items c.requires.some c.requires.few
      (omega (arith, c.in_ok-empty_channels.field-0.ok.0, c.in_ok-empty_channels.ensures.count))
      c.in_ok-empty_channels.ensures.empty c.new.ensures,
  no-marks c.args.gates c.in_ok-no_low_marks.field-0.items _ c.new-2.ensures.items
      (omega (arith, c.in_ok-no_low_marks.field-0.ok.0, c.in_ok-no_low_marks.ensures.count))
      c.in_ok-no_low_marks.ensures.none,
)
