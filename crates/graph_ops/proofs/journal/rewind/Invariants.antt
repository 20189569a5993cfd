use Rattle.std.proofs.Common.{◌≡◌, length}
use Rattle.graph_ops.specs.Slots.{states_of}
use Rattle.graph_ops.specs.TakingBack.{graph_rewound}
use Rattle.graph_ops.specs.Journals.{CanRewindIn}
use Rattle.graph_ops.proofs.journal.rewind.Given as goal

abbrev pub invariant-loop-step : goal.invariant-loop-step
invariant-loop-step l = record { can : CanRewindIn l.journal.items l.slots.entries; back : graph_rewound l.journal.items (states_of l.slots.entries) ≡ graph_rewound l.initial.journal.items (states_of l.initial.slots.entries) }

abbrev pub decreases-loop-step : goal.decreases-loop-step
decreases-loop-step l = length l.journal.items
