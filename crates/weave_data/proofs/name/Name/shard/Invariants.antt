use Rattle.std.proofs.Common.{◌≡◌, ◌*◌, ◌≤◌, take, sum, length}
use Rattle.weave_data.proofs.name.Name.shard.Given as goal

abbrev pub invariant-loop-byte : goal.invariant-loop-byte
invariant-loop-byte l = record { so_far : l.total ≡ sum (take l.byte-index l.bytes); small : l.total ≤ 255 * l.byte-index; short : length l.bytes ≤ 32 }
