use Rattle.std.proofs.Common.{◌≤◌, ◌-◌, length}
use Rattle.store_journal.specs.Walked.{IsWalking}
use Rattle.store_journal.proofs.walk.walk.Given as goal

abbrev pub decreases-records : goal.decreases-records
decreases-records l = length l.file - l.walked.gate

abbrev pub invariant-records : goal.invariant-records
invariant-records l = record {
  walking : IsWalking l.file l.walked;
  within : l.walked.gate ≤ length l.file;
  few : l.walked.number ≤ l.walked.gate;
}
