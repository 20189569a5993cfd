use Rattle.std.proofs.Common.{◌≡◌, length}
use Rattle.lock_row.proofs.Meetings.{MetSoFar}
use Rattle.lock_row.proofs.meeting.meet_others.Given as goal

abbrev pub invariant-loop-place : goal.invariant-loop-place
invariant-loop-place g l = record {
  passes : length l.passes ≡ length l.initial.passes;
  notes : length l.notes ≡ length l.initial.notes;
  so_far : MetSoFar l.fn.locks l.initial.passes l.passes l.initial.notes l.notes l.fn.except l.place;
}
