use Rattle.std.proofs.Common.{◌≤◌, IsSome}
use Rattle.store_journal.specs.Commits.{commit_of}
use Rattle.store_journal.specs.Disk.{LeavesOnly}
use Rattle.store_journal.specs.Standing.{IsAtRest}
use Rattle.weave_keep.specs.KeepEnds.{IsJournalUpTo}
use Rattle.weave_keep.specs.Keepable.{AreKeptUpTo}
use Rattle.weave_keep.specs.KeptReports.{new_commits}
use Rattle.weave_keep.proofs.keeping.keep_requests.Given as goal

abbrev pub invariant-loop-place : goal.invariant-loop-place
invariant-loop-place g l = record {
  so_far : AreKeptUpTo l.fn.store l.store l.fn.requests l.place l.replies l.order;
  at_rest : IsAtRest commit_of l.store.commits l.store.place (g.D.Disk.seen l.disk) (g.D.Disk.images l.disk);
  told : IsSome (g.D.Disk.seen l.fn.disk) → IsSome (g.D.Disk.seen l.disk);
  faults : g.D.Disk.faults l.fn.disk ≤ g.D.Disk.faults l.disk;
  moments : IsSome (g.D.Disk.seen l.fn.disk) → LeavesOnly g.D.Disk.moment g.D.Disk.images_since l.fn.disk l.disk (IsJournalUpTo l.fn.store.commits (new_commits l.fn.store.epoch 0 l.fn.store.commits l.fn.requests));
}
