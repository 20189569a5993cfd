use Rattle.std.proofs.Common.{drop}
use Rattle.weave_entries.specs.ShardReplay.{visits_of}
use Rattle.weaver_core.proofs.VisitTables.{AreLeft}
use Rattle.weaver_core.proofs.marks.add_visits.Given as goal

-- the visits of the entries that are left are still to be added
abbrev pub invariant-loop-entry : goal.invariant-loop-entry
invariant-loop-entry l = AreLeft l.initial.visits.entries l.visits.entries (visits_of l.log) (visits_of (drop l.entry-index l.log))
