use Rattle.std.proofs.Common.{arith}
use Rattle.version_parts.proofs.Counting.{count_all}
use Rattle.version_parts.proofs.counts.count_edge.Goals as goal

pub overflow_add-result : goal.overflow_add-result
overflow_add-result c = omega (arith, count_all c.args.edge.now.targets, c.len.ensures, c.count_tracks.ensures, c.requires)

pub returns : goal.returns
returns c = omega (arith, count_all c.args.edge.now.targets, c.len.ensures, c.count_tracks.ensures)
