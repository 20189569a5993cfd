use Rattle.std.proofs.Common.{◌≡◌, ◌≤◌, ◌-◌, ◌+◌, vec_len, length}
use Rattle.weave_io.specs.Told.{Takes}
use Rattle.weave_io.specs.declared.reading.TheConstants.{MOST_BYTES, PIECE}
use Rattle.weave_io.proofs.reading.read_all.Given as goal

abbrev pub invariant-loop-bytes : goal.invariant-loop-bytes
invariant-loop-bytes g l = record {
  taken : Takes (g.S.Source.left l.initial.source) (g.S.Source.left l.source) l.bytes.items;
  faults : g.S.Source.faults l.initial.source ≤ g.S.Source.faults l.source;
  short : vec_len l.bytes ≤ MOST_BYTES;
  room : length l.buffer ≡ PIECE;
}

abbrev pub decreases-loop-bytes : goal.decreases-loop-bytes
decreases-loop-bytes g l = MOST_BYTES + 1 - vec_len l.bytes
