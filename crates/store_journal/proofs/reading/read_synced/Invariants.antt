use Rattle.std.proofs.Common.{◌≡◌, ◌-◌, ◌^◌, vec_len, length, IfSome, IsSome}
use Rattle.store_journal.specs.Disk.{AddsNone, IsSynced, LeavesOnly}
use Rattle.store_journal.specs.declared.reading.TheConstants.{PIECE}
use Rattle.store_journal.proofs.Quiet.{IsFront}
use Rattle.store_journal.proofs.reading.read_synced.Given as goal

abbrev pub invariant-loop-bytes : goal.invariant-loop-bytes
invariant-loop-bytes g l = record {
  quiet : LeavesOnly g.D.Disk.moment g.D.Disk.images_since l.fn.disk l.disk (g.D.Disk.images l.fn.disk);
  same : g.D.Disk.seen l.disk ≡ g.D.Disk.seen l.fn.disk;
  none : AddsNone (g.D.Disk.images l.fn.disk) (g.D.Disk.images l.disk);
  synced : IsSynced (g.D.Disk.seen l.disk) (g.D.Disk.images l.disk);
  front : IfSome (g.D.Disk.seen l.disk) (IsFront l.bytes.items);
  told : IsSome (g.D.Disk.seen l.fn.disk) → IsSome (g.D.Disk.seen l.disk);
  faults : g.D.Disk.faults l.disk ≡ g.D.Disk.faults l.fn.disk;
  room : length l.buffer ≡ PIECE;
}

abbrev pub decreases-loop-bytes : goal.decreases-loop-bytes
decreases-loop-bytes g l = 2 ^ 63 - vec_len l.bytes
