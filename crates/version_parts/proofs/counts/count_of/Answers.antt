use Rattle.std.proofs.Common.{arith}
use Rattle.version_parts.proofs.Counting.{count_all}
use Rattle.version_parts.proofs.counts.count_of.Goals as goal

pub overflow_add-result-2 : goal.overflow_add-result-2
overflow_add-result-2 c = omega (arith, count_all c.args.lists.now.presence, c.len.ensures, c.count_tracks-props.ensures, c.count_edges-edges.ensures, c.requires)

pub returns : goal.returns
returns c = omega (arith, count_all c.args.lists.now.presence, c.len.ensures, c.count_tracks-props.ensures, c.count_edges-edges.ensures)
