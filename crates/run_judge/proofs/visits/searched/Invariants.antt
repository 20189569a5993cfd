use Rattle.std.proofs.Common.{◌≡◌, Some}
use Rattle.graph_ops.specs.Graphs.{plain_of}
use Rattle.program_defs.specs.declared.program.Program.{Program}
use Rattle.program_defs.specs.Asking.{count_unread, HasReadNames}
use Rattle.program_defs.specs.Searching.{aim_of}
use Rattle.run_judge.proofs.visits.searched.Given as goal

abbrev pub invariant-loop-v : goal.invariant-loop-v
invariant-loop-v l = (program : Program) → aim_of program ≡ Some l.fn.aim → HasReadNames program (plain_of l.graph) l.search l.visits.items

abbrev pub decreases-loop-v : goal.decreases-loop-v
decreases-loop-v l = count_unread l.graph l.fn.aim l.visits.items
