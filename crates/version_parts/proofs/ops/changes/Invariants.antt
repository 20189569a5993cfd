use Rattle.std.proofs.Common.{◌≡◌, ◌≤◌, ◌+◌, drop}
use Rattle.version_parts.specs.Counts.{changes}
use Rattle.version_parts.proofs.ops.changes.Given as goal

abbrev pub invariant-loop-op : goal.invariant-loop-op
invariant-loop-op l = record {
  counted : l.count + changes (drop l.op-index l.ops) ≡ changes l.ops;
  most : l.count ≤ l.op-index;
}
