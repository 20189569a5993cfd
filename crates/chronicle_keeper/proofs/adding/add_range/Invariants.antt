use Rattle.std.proofs.Common.{◌≡◌, ◌++◌, ◌-◌, ◌≤◌}
use Rattle.chronicle.specs.Locks.{lock_of}
use Rattle.chronicle.specs.Passes.{IsReady, number_of, own_entries}
use Rattle.chronicle_keeper.specs.Totals.{numbered_by}
use Rattle.chronicle_keeper.proofs.adding.add_range.Given as goal

abbrev pub invariant-loop-value : goal.invariant-loop-value
invariant-loop-value g l = record {
  ready : IsReady (lock_of l.shared) l.pass;
  number : number_of l.pass ≡ number_of l.initial.pass;
  from_on : l.fn.from ≤ l.value;
  own : own_entries l.pass ≡ own_entries l.initial.pass ++ numbered_by (number_of l.initial.pass) l.fn.from (l.value - l.fn.from);
}
