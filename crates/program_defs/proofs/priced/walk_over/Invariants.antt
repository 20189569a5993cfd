use Rattle.std.proofs.Common.{◌<◌, length}
use Rattle.std.specs.Option.{unwrap_or}
use Rattle.program_defs.specs.Labels.{label_in}
use Rattle.program_defs.proofs.WalkBack.{HasGoneBack}
use Rattle.program_defs.proofs.priced.walk_over.Given as goal

abbrev pub invariant-loop-before : goal.invariant-loop-before
invariant-loop-before l = record {
  place : l.at < length l.labels;
  walk : HasGoneBack l.vertices l.parents l.fn.place l.at l.walk.items;
}

abbrev pub decreases-loop-before : goal.decreases-loop-before
decreases-loop-before l = unwrap_or (label_in l.labels l.at) 0
