use Rattle.weave_drive.specs.Driving.{Drives}
use Rattle.weave_drive.specs.Progress.{reading_left}
use Rattle.weave_drive.proofs.looking.look.Given as goal

abbrev pub invariant-loop : goal.invariant-loop
invariant-loop l = Drives 0 l.fn.core l.core

-- vertices that may still be read, and shards that are not ready
abbrev pub decreases-loop : goal.decreases-loop
decreases-loop l = reading_left l.fn.core.script l.fn.request l.fn.home l.core.state.account
